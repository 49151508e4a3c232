-- Lists with their files and their tables, and files with something wrong.
use Rattle.std.specs.Prelude.{ℕ, zero, suc, pos, true, false, Bool, List, [], ◌∷◌, ◌++◌, codes, Option, Some, None}
use Rattle.std.specs.Prelude.{Result}
use Rattle.toml.specs.Data.{Data, string, integer, boolean, array, table, Items, no_items, item, Members, no_members}
use Rattle.toml.specs.Data.{member}
use Rattle.ttp_base.specs.Text.{Lines}
use Rattle.ttp_world.specs.declared.medl.Kind.{Kind}
use Rattle.ttp_world.specs.declared.medl.Kind.TheVariants as kind
use Rattle.ttp_world.specs.declared.medl.SlotPlan.{SlotPlan}
use Rattle.ttp_world.specs.declared.medl.Medl.{Medl}
use Rattle.medl_text.specs.declared.error.MedlError.{MedlError}
use Rattle.medl_text.specs.ListFile.{medl_in}

-- Lists.

-- a list of one round
abbrev pub short_list : ℕ → ℕ → List SlotPlan → Medl
short_list version modes slots = record {
  version = version;
  rounds = 1;
  schedule = 0;
  buffers = 2;
  drift = pos 0;
  error = pos 0;
  window = pos 1;
  modes = modes;
  slots = slots;
}

-- a slot without payload, measured for synchronization
abbrev pub live_slot : Bool → ℕ → SlotPlan
live_slot start live = record {
  kinds = kind.I ∷ [];
  payload = 0;
  sync = true;
  start = start;
  requests = false;
  live = live;
}

-- where there is one mode
abbrev pub one_mode_slot : Bool → SlotPlan
one_mode_slot start = live_slot start 1

-- one with so much payload
abbrev pub payload_slot : Kind → ℕ → SlotPlan
payload_slot frame payload = record (one_mode_slot false) { kinds = frame ∷ []; payload = payload }

abbrev pub four_in_one_mode : Medl
four_in_one_mode =
    short_list 1 1 (one_mode_slot true ∷ one_mode_slot false ∷ one_mode_slot false ∷ one_mode_slot false ∷ [])

-- a slot that may start, and so many others
abbrev pub same_slots : ℕ → List SlotPlan
same_slots zero = []
same_slots (suc n) = one_mode_slot false ∷ same_slots n

abbrev pub many_nodes : ℕ → ℕ → Medl
many_nodes version n = short_list version 1 (one_mode_slot true ∷ same_slots n)

-- four nodes in three modes
abbrev pub modal_nodes : Medl
modal_nodes = short_list 2 3 (live_slot true 5 ∷ live_slot false 7 ∷ live_slot false 0 ∷ live_slot false 4 ∷ [])

-- a slot of every kind in three rounds
abbrev pub mixed_slot : SlotPlan
mixed_slot = record {
  kinds = kind.I ∷ kind.N ∷ kind.X ∷ [];
  payload = 16;
  sync = false;
  start = true;
  requests = true;
  live = 1;
}

abbrev pub mixed_nodes : Medl
mixed_nodes = record {
  version = 2;
  rounds = 3;
  schedule = 4660;
  buffers = 2;
  drift = pos 0;
  error = pos 0;
  window = pos 1;
  modes = 1;
  slots = mixed_slot ∷ [];
}

abbrev pub four_nodes_table : Lines
four_nodes_table =
    codes "ttpbench schedule 1 nodes 4 rounds 1 schedule 000000\n"
    ∷ codes "round 0 slot 0 kind I data 0 sync yes start yes\n"
    ∷ codes "round 0 slot 1 kind I data 0 sync yes start no\n"
    ∷ codes "round 0 slot 2 kind I data 0 sync yes start no\n"
    ∷ codes "round 0 slot 3 kind I data 0 sync yes start no\n"
    ∷ []

abbrev pub mixed_nodes_table : Lines
mixed_nodes_table =
    codes "ttpbench schedule 2 nodes 1 rounds 3 schedule 001234\n"
    ∷ codes "round 0 slot 0 kind I data 0 sync no start yes\n"
    ∷ codes "round 1 slot 0 kind N data 16 sync no start yes\n"
    ∷ codes "round 2 slot 0 kind X data 16 sync no start yes\n"
    ∷ []

-- Files: as a text, and as the table that a text is.

abbrev pub slot_text : List ℕ
slot_text = codes "[[slot]]\nkinds = \"I\"\ndata = 0\nsync = true\nstart = false\n"

abbrev pub starter_text : List ℕ
starter_text = codes "[[slot]]\nkinds = \"I\"\ndata = 0\nsync = true\nstart = true\n"

abbrev pub numbers_text : List ℕ
numbers_text = codes "rounds = 1\nschedule = 0\nbuffers = 2\ndrift = 0\nerror = 0\nwindow = 1\n"

abbrev pub four_nodes_text : List ℕ
four_nodes_text = codes "version = 1\n" ++ numbers_text ++ starter_text ++ slot_text ++ slot_text ++ slot_text

abbrev pub modal_nodes_text : List ℕ
modal_nodes_text =
    codes "version = 2\nmodes = 3\n" ++ numbers_text
    ++ starter_text ++ codes "live = \"yny\"\nrequests = false\n" ++ slot_text
    ++ slot_text ++ codes "live = \"nnn\"\n" ++ slot_text ++ codes "live = \"nny\"\n"

-- a key that may be absent
abbrev pub with_key : List ℕ → Option Data → Members → Members
with_key key None rest = rest
with_key key (Some d) rest = member key d rest

-- what a slot says of modes: `live` and `requests`
abbrev pub modal_slot : Option Data → Option Data → List ℕ → ℕ → Bool → Bool → Data
modal_slot live requests kinds size sync start =
    table (member (codes "data") (integer (pos size)) (member (codes "kinds") (string kinds)
    (with_key (codes "live") live (with_key (codes "requests") requests
    (member (codes "start") (boolean start) (member (codes "sync") (boolean sync) no_members))))))

abbrev pub slot_of : List ℕ → ℕ → Bool → Bool → Data
slot_of kinds size sync start = modal_slot None None kinds size sync start

-- a file of this version with these modes, rounds and slots
abbrev pub file_with : ℕ → Option Data → Data → Items → Members
file_with version modes rounds slots =
    member (codes "buffers") (integer (pos 2)) (member (codes "drift") (integer (pos 0))
    (member (codes "error") (integer (pos 0))
    (with_key (codes "modes") modes
    (member (codes "rounds") rounds (member (codes "schedule") (integer (pos 0)) (member (codes "slot") (array slots)
    (member (codes "version") (integer (pos version)) (member (codes "window") (integer (pos 1)) no_members))))))))

abbrev pub one : Data
one = integer (pos 1)

-- a file of version 1 without keys for modes
abbrev pub file_of : Data → Items → Members
file_of rounds slots = file_with 1 None rounds slots

-- what a file of version 1 and one round with these slots means, and one with these modes too
abbrev pub slots_mean : Items → Result Medl MedlError
slots_mean slots = medl_in (file_of one slots)

abbrev pub modes_mean : Data → Items → Result Medl MedlError
modes_mean modes slots = medl_in (file_with 1 (Some modes) one slots)

abbrev pub first_slot : Data
first_slot = slot_of (codes "I") 0 true true

abbrev pub other_slot : Data
other_slot = slot_of (codes "I") 0 true false

-- a slot without payload that is live so, and one that asks for modes or not
abbrev pub slot_live_in : Data → Data
slot_live_in live = modal_slot (Some live) None (codes "I") 0 true false

abbrev pub asking : Data → Data
asking requests = modal_slot None (Some requests) (codes "I") 0 true false

abbrev pub answers : List ℕ → Data
answers letters = slot_live_in (string letters)

-- a slot whose frames ask for modes, of which it is live in the first two of three
abbrev pub asking_slot : Data
asking_slot = modal_slot (Some (string (codes "yyn"))) (Some (boolean true)) (codes "N") 16 true false

abbrev pub asking_plan : SlotPlan
asking_plan = record { kinds = kind.N ∷ []; payload = 16; sync = true; start = false; requests = true; live = 3 }

-- a slot whose `start`, `requests` and `live` are numbers
abbrev pub numbered_slot : Data
numbered_slot =
    table (member (codes "data") (integer (pos 0)) (member (codes "kinds") (string (codes "I"))
    (member (codes "live") one (member (codes "requests") one (member (codes "start") one
    (member (codes "sync") (boolean true) no_members))))))

-- a slot with a key that no list has
abbrev pub fast_slot : Data
fast_slot =
    table (member (codes "data") (integer (pos 0)) (member (codes "kinds") (string (codes "I"))
    (member (codes "speed") one (member (codes "start") (boolean false)
    (member (codes "sync") (boolean true) no_members)))))

-- four slots, of which these are the last three
abbrev pub four_slots : Data → Data → Data → Items
four_slots b c d = item first_slot (item b (item c (item d no_items)))

-- four slots, of which these are the first two
abbrev pub two_slots : Data → Data → Items
two_slots a b = item a (item b (item other_slot (item other_slot no_items)))

-- a slot that may start, and so many others
abbrev pub others : ℕ → Items
others zero = no_items
others (suc n) = item other_slot (others n)

abbrev pub many_slots : ℕ → ℕ → Members
many_slots version n = file_with version None one (item first_slot (others n))
