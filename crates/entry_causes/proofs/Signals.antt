-- What is heard on a channel, by the nodes of whose frames something remains there.
use Rattle.std.proofs.Common.{◌≡◌, ℕ, ◌<◌, Bool, true, false, cond, not, ◌||◌, ◌&&◌}
use Rattle.std.proofs.Common.{List, [], ◌∷◌, length, refl, ap, sym, subst, ◌∙◌}
use Rattle.std.proofs.Common.{arith, inl, inr}
use Rattle.std.proofs.lemmas.Bool.{and_parts, cases_eq, eq-eqb, false≢true, ne_eqb}
use Rattle.std.specs.List.{AllByRecursion, filter}
use Rattle.std.specs.Prelude.{None, Some}
use Rattle.causes.specs.LinesOf.{bytes_sent, heard_in, remaining_in, senders_of}
use Rattle.causes.specs.RunSlots.{RunSlot}
use Rattle.entry_causes.proofs.WhoSends.{remaining-slot_in}
use Rattle.entry_causes.specs.Hearing.{IsHeardBelow, IsHeardFrom, IsHeardInSlot}
use Rattle.entry_causes.specs.Senders.{is_left_on, sends_in, the_one}
use Rattle.entry_causes.specs.declared.bus.Heard.{Heard}
use Rattle.entry_causes.specs.declared.bus.Heard.TheVariants as heard
use Rattle.run_rows.specs.Rows.{slot_in}
use Rattle.ttp_base.proofs.Below.{below-lt}
use Rattle.ttp_base.proofs.NodeSets.{has_node-filter}
use Rattle.ttp_base.specs.NodeSet.{below, has_node}
use Rattle.ttp_world.specs.Medium.{Noise, SentFrame, Signal, Silence, channel_signal, combined_signal, remaining_frames}
use Rattle.ttp_world.specs.Medium.{signal_of, with_noise}
use Rattle.ttp_world.specs.Script.{has_receive_fault, has_send_fault}
use Rattle.ttp_world.specs.declared.medl.Medl.{Medl}
use Rattle.ttp_world.specs.declared.script.Channel.{Channel}
use Rattle.ttp_world.specs.declared.script.Fault.TheVariants as fault
use Rattle.ttp_world.specs.declared.script.Script.{Script}

-- Frames that a test of their senders leaves.

none-left : (frames : List SentFrame) → senders_of frames ≡ [] → frames ≡ []
none-left [] is = refl
none-left (sent ∷ others) is = absurd (omega (arith, ap length is))

module _ (q : ℕ → Bool) where
  passes-if : (b : Bool) (sent : SentFrame) (left : List SentFrame) (p : ℕ) (rest : List ℕ) → q sent.sender ≡ b
      → (senders_of left ≡ p ∷ rest → q p ≡ true)
      → senders_of (cond b (sent ∷ left) left) ≡ p ∷ rest → q p ≡ true
  passes-if true sent left p rest is others here =
      let same : sent.sender ≡ p = cc in
      ap q (sym same) ∙ is
  passes-if false sent left p rest is others here = others here

  passes : (frames : List SentFrame) (p : ℕ) (rest : List ℕ)
      → senders_of (filter (λ sent. q sent.sender) frames) ≡ p ∷ rest → q p ≡ true
  passes [] p rest here = absurd (omega (arith, ap length here))
  passes (sent ∷ others) p rest here =
      passes-if (q sent.sender) sent (filter (λ sent. q sent.sender) others) p rest refl (passes others p rest) here

  one-if : (b : Bool) (sent : SentFrame) (others : List SentFrame) (p : ℕ) → q sent.sender ≡ b
      → (senders_of (filter (λ sent. q sent.sender) others) ≡ p ∷ []
      → filter (λ sent. q sent.sender) others ≡ record { sender = p; bytes = bytes_sent others p } ∷ [])
      → senders_of (cond b (sent ∷ filter (λ sent. q sent.sender) others) (filter (λ sent. q sent.sender) others)) ≡ p
      ∷ []
      → cond b (sent ∷ filter (λ sent. q sent.sender) others) (filter (λ sent. q sent.sender) others)
      ≡ record { sender = p; bytes = bytes_sent (sent ∷ others) p } ∷ []
  one-if true sent others p is rest here =
      let same : sent.sender ≡ p = cc in
      let none : senders_of (filter (λ sent. q sent.sender) others) ≡ [] = cc in
      let bytes : sent.bytes ≡ bytes_sent (sent ∷ others) p =
      sym (ap (λ (b : Bool). elim b as (λ c. List ℕ) [ true ↦ sent.bytes | false ↦ bytes_sent others p ])
      (eq-eqb sent.sender p same)) in
      (λ i. record { sender = same i; bytes = bytes i } ∷ none-left (filter (λ sent. q sent.sender) others) none i)
  one-if false sent others p is rest here =
      let other : sent.sender ≡ p → ⊥ =
      λ same. false≢true (sym is ∙ ap q same ∙ passes others p [] here) in
      rest here
      ∙ ap (λ (bytes : List ℕ). record { sender = p; bytes = bytes } ∷ [])
      (sym (ap (λ (b : Bool). elim b as (λ c. List ℕ) [ true ↦ sent.bytes | false ↦ bytes_sent others p ])
      (ne_eqb sent.sender p other)))

  -- if it is one, its bytes are those of its node
  one-left : (frames : List SentFrame) (p : ℕ) → senders_of (filter (λ sent. q sent.sender) frames) ≡ p ∷ []
      → filter (λ sent. q sent.sender) frames ≡ record { sender = p; bytes = bytes_sent frames p } ∷ []
  one-left [] p here = absurd (omega (arith, ap length here))
  one-left (sent ∷ others) p here = one-if (q sent.sender) sent others p refl (one-left others p) here

-- What is on the channel.

the_one-some : (nodes : List ℕ) (p : ℕ) → Some p ≡ the_one nodes → nodes ≡ p ∷ []
the_one-some [] p is = absurd (cc)
the_one-some (x ∷ []) p is =
    let same : p ≡ x = cc in
    ap (λ (k : ℕ). k ∷ []) (sym same)
the_one-some (x ∷ y ∷ others) p is = absurd (cc)

signal-none : (script : Script) (slot : ℕ) (c : Channel) (frames : List SentFrame)
    → senders_of (remaining_frames script slot c frames) ≡ [] → channel_signal script slot c frames ≡ Silence
signal-none script slot c frames none =
    ap (combined_signal script slot c) (none-left (remaining_frames script slot c frames) none)

signal-one : (script : Script) (slot : ℕ) (c : Channel) (frames : List SentFrame) (p : ℕ)
    → senders_of (remaining_frames script slot c frames) ≡ p ∷ []
    → channel_signal script slot c frames
    ≡ signal_of script slot c (record { sender = p; bytes = bytes_sent frames p })
signal-one script slot c frames p one =
    ap (combined_signal script slot c)
    (one-left (λ k. not (has_send_fault script fault.Silence k c slot)) frames p one)

many-left : (script : Script) (slot : ℕ) (c : Channel) (left : List SentFrame) → None ≡ the_one (senders_of left)
    → (length (senders_of left) ≡ 0 → ⊥) → combined_signal script slot c left ≡ Noise
many-left script slot c [] none some = absurd (some refl)
many-left script slot c (sent ∷ []) none some = absurd (cc)
many-left script slot c (sent ∷ more ∷ others) none some = refl

-- What is heard.

pub heard-silenced : (k : ℕ) (s : RunSlot) (c : Channel)
    → has_receive_fault s.begun.script fault.Silence k c s.begun.number ≡ true
    → Silence ≡ heard_in k s c
heard-silenced k s c is =
    sym (ap (λ (b : Bool). cond b Silence
    (with_noise (has_receive_fault s.begun.script fault.Noise k c s.begun.number)
    (channel_signal s.begun.script s.begun.number c s.frames))) is)

heard-by : (k : ℕ) (s : RunSlot) (c : Channel) (signal : Signal)
    → has_receive_fault s.begun.script fault.Silence k c s.begun.number ≡ false
    → channel_signal s.begun.script s.begun.number c s.frames ≡ signal
    → with_noise (has_receive_fault s.begun.script fault.Noise k c s.begun.number) signal ≡ heard_in k s c
heard-by k s c signal is there =
    sym ((λ i. cond (is i) Silence
    (with_noise (has_receive_fault s.begun.script fault.Noise k c s.begun.number) (there i))))

pub heard-none : (k : ℕ) (s : RunSlot) (c : Channel) (nodes : List ℕ) → nodes ≡ remaining_in c s
    → has_receive_fault s.begun.script fault.Silence k c s.begun.number ≡ false
    → length nodes ≡ 0 → Silence ≡ heard_in k s c
heard-none k s c nodes are is none =
    heard-by k s c Silence is
    (signal-none s.begun.script s.begun.number c s.frames (sym are ∙ empty nodes none))
  where
    empty : (nodes : List ℕ) → length nodes ≡ 0 → nodes ≡ []
    empty [] none = refl
    empty (x ∷ xs) none = absurd (omega (arith, none))

pub heard-one : (k : ℕ) (s : RunSlot) (c : Channel) (nodes : List ℕ) (p : ℕ) → nodes ≡ remaining_in c s
    → has_receive_fault s.begun.script fault.Silence k c s.begun.number ≡ false
    → Some p ≡ the_one nodes
    → with_noise (has_receive_fault s.begun.script fault.Noise k c s.begun.number)
    (signal_of s.begun.script s.begun.number c (record { sender = p; bytes = bytes_sent s.frames p }))
    ≡ heard_in k s c
heard-one k s c nodes p are is one =
    heard-by k s c (signal_of s.begun.script s.begun.number c (record { sender = p; bytes = bytes_sent s.frames p })) is
    (signal-one s.begun.script s.begun.number c s.frames p (sym are ∙ the_one-some nodes p one))

pub heard-many : (k : ℕ) (s : RunSlot) (c : Channel) (nodes : List ℕ) → nodes ≡ remaining_in c s
    → has_receive_fault s.begun.script fault.Silence k c s.begun.number ≡ false
    → None ≡ the_one nodes → (length nodes ≡ 0 → ⊥) → Noise ≡ heard_in k s c
heard-many k s c nodes are is none some =
    heard-by k s c Noise is
    (many-left s.begun.script s.begun.number c (remaining_frames s.begun.script s.begun.number c s.frames)
    (none ∙ ap the_one are) (λ zero. some (ap length are ∙ zero)))

-- Who sent it.

in-all : (n : ℕ) (xs : List ℕ) (p : ℕ) → AllByRecursion (λ k. k < n) xs → has_node xs p ≡ true → p < n
in-all n [] p all is = absurd (false≢true is)
in-all n (x ∷ xs) p all is = elim (cases_eq x p) [
  | inl same ↦ subst (λ (m : ℕ). m < n) same all.0
  | inr other ↦ in-all n xs p all.1 (sym (ap (λ (b : Bool). b || has_node xs p) (ne_eqb x p other)) ∙ is)
]

pub record IsSender (list : Medl) (s : RunSlot) (p : ℕ) : Type 0 where
  pub node : p < length list.slots
  pub sends : sends_in s p ≡ true

pub alone-sends : (list : Medl) (script : Script) (slot : ℕ) (c : Channel) (nodes : List ℕ) (p : ℕ)
    → nodes ≡ remaining_in c (slot_in list script slot) → Some p ≡ the_one nodes
    → IsSender list (slot_in list script slot) p
alone-sends list script slot c nodes p are one =
    let s = slot_in list script slot in
    let n = length list.slots in
    let left = is_left_on c s in
    let only : filter left (below n) ≡ p ∷ [] =
    remaining-slot_in list script slot c ∙ sym are ∙ the_one-some nodes p one in
    let itself : has_node (p ∷ []) p ≡ true = ap (λ (b : Bool). b || false) (eq-eqb p p refl) in
    let there : (left p && has_node (below n) p) ≡ true =
    sym (has_node-filter left (below n) p) ∙ ap (λ (xs : List ℕ). has_node xs p) only ∙ itself in
    let both = and_parts (left p) (has_node (below n) p) there in
    record {
      node = in-all n (below n) p (below-lt n) both.1;
      sends = (and_parts (sends_in s p)
          (not (has_send_fault s.begun.script fault.Silence p c s.begun.number)) both.0).0;
    }

pub heard-in_slot : (list : Medl) (s : RunSlot) (p : ℕ) (h : Heard) → IsSender list s p → IsHeardFrom p h
    → IsHeardInSlot list s h
heard-in_slot list s p heard.Silence is from = tt
heard-in_slot list s p heard.Noise is from = tt
heard-in_slot list s p (heard.Bits sender frame is_as_sent) is from =
    (subst (λ (m : ℕ). m < length list.slots) (sym from) is.node, ap (sends_in s) from ∙ is.sends)

pub heard-below : (list : Medl) (s : RunSlot) (h : Heard) → IsHeardInSlot list s h → IsHeardBelow (length list.slots) h
heard-below list s heard.Silence is = tt
heard-below list s heard.Noise is = tt
heard-below list s (heard.Bits sender frame is_as_sent) is = is.0
