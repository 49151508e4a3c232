-- What holds of each ending that a plan may come to, and of each file that it may ask for.
use Rattle.std.proofs.Common.{◌≡◌, ℕ, ◌+◌, List, [], ◌∷◌, take, Some, None, Result, Ok, Err}
use Rattle.std.proofs.Common.{subst, sym}
use Rattle.ttp_base.specs.Outside.{Held, untold, absent, holds, Load, Gives}
use Rattle.ttp_world.specs.declared.medl.Medl.{Medl}
use Rattle.ttp_world.specs.declared.script.Script.{Script}
use Rattle.commands.specs.declared.read.FileFault.{FileFault}
use Rattle.commands.specs.Files.{list_file, refused_list, list_plan, script_file}
use Rattle.commands.specs.Files.{refused_script, script_plan, both_plan}
use Rattle.commands.specs.Lines.{Notice}
use Rattle.commands.specs.Plan.{Ending, File, Plan, ends, asks, said_ending, after, read_plan, Comes, AsksFirst}
use Rattle.commands.specs.Plan.{told_ending}
use Rattle.commands.specs.Promise.{EachName}
use Rattle.commands.specs.Read.{list_from, script_from}

-- each ending of a plan is of a kind, and so is each file
abbrev pub Every : {Sets : Type 0} → (Ending Sets → Type 0) → (File → Type 0) → Plan Sets → Type 0
Every P Q (ends ending) = P ending
Every P Q (asks file next) = Q file × ((bytes : List ℕ) → Every P Q (next bytes))

-- so the one that it comes to is
pub all_come : {Sets : Type 0} (P : Ending Sets → Type 0) (Q : File → Type 0) (held : List ℕ → Held) (plan : Plan Sets)
    (loads : List Load) (ending : Ending Sets) → Every P Q plan → Comes held plan loads (ends ending) → P ending
all_come P Q held plan [] ending all comes = subst (Every P Q) comes all
all_come P Q held (ends e) (load ∷ loads) ending all comes = absurd comes
all_come P Q held (asks file next) (load ∷ loads) ending all comes =
    all_come P Q held (next comes.1.0) loads ending (all.1 comes.1.0) comes.1.2

pub file_comes : {Sets : Type 0} (P : Ending Sets → Type 0) (Q : File → Type 0)
    (held : List ℕ → Held) (plan : Plan Sets)
    (loads : List Load) (file : File) (next : List ℕ → Plan Sets) → Every P Q plan
    → Comes held plan loads (asks file next) → Q file
file_comes P Q held plan [] file next all comes =
    let here : Every P Q (asks file next) = subst (Every P Q) comes all in
    here.0
file_comes P Q held (ends e) (load ∷ loads) file next all comes = absurd comes
file_comes P Q held (asks f n) (load ∷ loads) file next all comes =
    file_comes P Q held (n comes.1.0) loads file next (all.1 comes.1.0) comes.1.2

-- where a file is read, where a list is, and where a list and a script are

pub after_every : {X F Sets : Type 0} (P : Ending Sets → Type 0) (Q : File → Type 0) (refused : F → Notice)
    (next : X → Plan Sets) → ((fault : F) → P (said_ending (refused fault))) → ((value : X) → Every P Q (next value))
    → (read : Result X F) → Every P Q (after refused next read)
after_every P Q refused next refuse all (Ok value) = all value
after_every P Q refused next refuse all (Err fault) = refuse fault

pub read_every : {X F Sets : Type 0} (P : Ending Sets → Type 0) (Q : File → Type 0) (file : File)
    (read : List ℕ → Result X F) (refused : F → Notice) (next : X → Plan Sets) → Q file
    → ((fault : F) → P (said_ending (refused fault))) → ((value : X) → Every P Q (next value))
    → Every P Q (read_plan file read refused next)
read_every P Q file read refused next asked refuse all =
    (asked, λ bytes. after_every P Q refused next refuse all (read bytes))

pub list_every : {Sets : Type 0} (P : Ending Sets → Type 0) (Q : File → Type 0)
    (list : List ℕ) (next : Medl → Plan Sets)
    → Q (list_file list) → ((fault : FileFault) → P (said_ending (refused_list fault)))
    → ((medl : Medl) → Every P Q (next medl)) → Every P Q (list_plan list next)
list_every P Q list next asked refuse all = read_every P Q (list_file list) list_from refused_list next asked refuse all

pub both_every : {Sets : Type 0} (P : Ending Sets → Type 0) (Q : File → Type 0) (list script : List ℕ)
    (next : Medl → Script → Plan Sets) → Q (list_file list) → Q (script_file script)
    → ((fault : FileFault) → P (said_ending (refused_list fault)))
    → ((fault : FileFault) → P (said_ending (refused_script fault)))
    → ((medl : Medl) (right : Script) → Every P Q (next medl right)) → Every P Q (both_plan list script next)
both_every P Q list script next of_list of_script no_list no_script all =
    list_every P Q list (λ medl. script_plan medl script (next medl)) of_list no_list
    (λ medl.
    read_every P Q (script_file script) (script_from medl) refused_script (next medl) of_script no_script (all medl))

-- each name that a plan may ask for is of a kind
abbrev pub AllAsk : {Sets : Type 0} → (List ℕ → Type 0) → Plan Sets → Type 0
AllAsk Q plan = Every (λ ending. Unit {0}) (λ file. Q file.name) plan

-- so those that it asked for are
pub all_asked : {Sets : Type 0} (Q : List ℕ → Type 0) (held : List ℕ → Held) (plan : Plan Sets) (loads : List Load)
    → AllAsk Q plan → AsksFirst held plan loads → EachName Q loads
all_asked Q held plan [] all asked = tt
all_asked Q held (ends ending) (load ∷ loads) all asked = absurd asked
all_asked Q held (asks file next) (load ∷ []) all asked =
    (subst (λ (l : Load). Q l.name) (sym asked) all.0, tt)
all_asked Q held (asks file next) (load ∷ (other ∷ loads)) all asked = (
  subst (λ (l : Load). Q l.name) (sym asked.0) all.0,
  all_asked Q held (next asked.1.0) (other ∷ loads) (all.1 asked.1.0) asked.1.2,
)

-- where the files are told, a plan comes to one ending
told_next : {Sets : Type 0} (held : List ℕ → Held) (h : Held) (limit : ℕ) (given : List ℕ) (next : List ℕ → Plan Sets)
    (ending : Ending Sets)
    → elim h [ untold ↦ None | absent ↦ None | holds bytes ↦ told_ending held (next (take (limit + 1) bytes)) ]
    ≡ Some ending
    → Gives h limit given → told_ending held (next given) ≡ Some ending
told_next held untold limit given next ending told gives = absurd (cc)
told_next held absent limit given next ending told gives = absurd gives
told_next held (holds bytes) limit given next ending told gives =
    subst (λ (b : List ℕ). told_ending held (next b) ≡ Some ending) (sym gives) told

same_ending : {Sets : Type 0} (one other : Ending Sets) → Some one ≡ Some other → one ≡ other
same_ending one other same = cc

pub told_comes : {Sets : Type 0} (held : List ℕ → Held) (plan : Plan Sets)
    (loads : List Load) (ending told : Ending Sets)
    → Comes held plan loads (ends ending) → told_ending held plan ≡ Some told → ending ≡ told
told_comes {Sets = Sets} held plan [] ending told comes is =
    same_ending ending told (subst (λ (p : Plan Sets). told_ending held p ≡ Some told) comes is)
told_comes held (ends e) (load ∷ loads) ending told comes is = absurd comes
told_comes held (asks file next) (load ∷ loads) ending told comes is =
    told_comes held (next comes.1.0) loads ending told comes.1.2
    (told_next held (held file.name) file.limit comes.1.0 next told is comes.1.1)

-- a plan that has come to an end comes to no other

pub same_end : {Sets : Type 0} (one other : Ending Sets) → ends one ≡ ends other → one ≡ other
same_end one other same = cc

pub end_comes : {Sets : Type 0} (held : List ℕ → Held) (loads : List Load) (one other : Ending Sets)
    → Comes held (ends one) loads (ends other) → one ≡ other
end_comes held [] one other comes = same_end one other comes
end_comes held (load ∷ loads) one other comes = absurd comes

-- what holds of each ending is weakened
pub every_weaker : {Sets : Type 0} (P Q : Ending Sets → Type 0) (R : File → Type 0)
    → ((ending : Ending Sets) → P ending → Q ending) → (plan : Plan Sets) → Every P R plan → Every Q R plan
every_weaker P Q R weaker (ends ending) all = weaker ending all
every_weaker P Q R weaker (asks file next) all =
    (all.0, λ bytes. every_weaker P Q R weaker (next bytes) (all.1 bytes))
