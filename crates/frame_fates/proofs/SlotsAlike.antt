-- In a slot in which messages of the same lengths are chosen, the nodes make the same entries, but for their numbers.
use Rattle.std.proofs.Common.{◌≡◌, ℕ, zero, suc, ℤ, ◌<◌, Bool, true, false, cond, List, [], ◌∷◌, ◌++◌, length}
use Rattle.std.proofs.Common.{refl, ap, ◌∙◌, replicate}
use Rattle.std.specs.Prelude.{slice_index, map}
use Rattle.std.specs.List.{flat_map, AllByRecursion}
use Rattle.ttp_base.specs.NodeSet.{below}
use Rattle.ttp_base.proofs.Below.{below-lt}
use Rattle.ttp_world.specs.declared.medl.Medl.{Medl}
use Rattle.ttp_world.specs.declared.node.Act.{Act}
use Rattle.ttp_world.specs.declared.node.Act.TheVariants.{Listen, Start, Send, Judge}
use Rattle.ttp_world.specs.declared.node.Chosen.{Chosen}
use Rattle.ttp_world.specs.declared.node.Entry.{Entry}
use Rattle.ttp_world.specs.declared.script.Channel.{Channel}
use Rattle.ttp_world.specs.declared.script.Channel.TheVariants as channel
use Rattle.ttp_world.specs.declared.script.Script.{Script}
use Rattle.ttp_world.specs.Act.{coming_place}
use Rattle.ttp_world.specs.Conduct.{carries_payload, payload_sent, own_cstate, node_frames, new_entry}
use Rattle.ttp_world.specs.Frame.{header_of}
use Rattle.ttp_world.specs.Medium.{SentFrame}
use Rattle.ttp_world.specs.Medl.{kind_at}
use Rattle.ttp_world.specs.Past.{NodePast}
use Rattle.ttp_world.specs.Reception.{Hearing}
use Rattle.ttp_world.specs.Script.{flipped_bits, IsValidScript}
use Rattle.ttp_world.specs.World.{BegunSlot, node_of, sends_payload, is_loaded, chosen_of, frames_of, frames_in}
use Rattle.ttp_world.specs.World.{hearing_in, entry_in, row_in}
use Rattle.frame_fates.proofs.FromBelow.{header_stays}
use Rattle.frame_fates.specs.Alike.{unnumbered, unnumbered_row}
use Rattle.frame_fates.proofs.FlipMasks.{mask_of}
use Rattle.frame_fates.proofs.HeardAlike.{AreAllSentAlike, AreSignalsAlike, heard-alike}
use Rattle.frame_fates.proofs.HeardAlike.{listening-alike, judging-alike}
use Rattle.frame_fates.proofs.TakenAlike.{same-alike, flipped-alike}

-- two choices of messages that are as long for each node whose frame carries one
pub record AreAsLong (s : BegunSlot) (cs ds : List Chosen) : Type 0 where
  pub same : (k : ℕ) → k < length s.list.slots → is_loaded s k ≡ true
      → length (chosen_of cs k).payload ≡ length (chosen_of ds k).payload

-- Frames.

first_zero : (size : ℕ) → slice_index (replicate size 0) 0 ≡ 0
first_zero zero = refl
first_zero (suc size) = refl

-- the flips of a script leave the header
mask-header : (list : Medl) (script : Script) (k slot : ℕ) (c : Channel) → IsValidScript list script → (size : ℕ)
    → slice_index (mask_of size (flipped_bits script k c slot)) 0 ≡ 0
mask-header list script k slot c valid size =
    header_stays list script k slot c (replicate size 0) valid ∙ first_zero size

payload-long : (carries : Bool) (one other : List ℕ) → (carries ≡ true → length one ≡ length other)
    → length (cond carries one []) ≡ length (cond carries other [])
payload-long true one other same = same refl
payload-long false one other same = refl

frames-alike : (list : Medl) (script : Script) (slot k : ℕ) (past : NodePast) (c d : Chosen) (does : Act)
    → IsValidScript list script → (sends_payload list past does ≡ true → length c.payload ≡ length d.payload)
    → AreAllSentAlike list script slot (node_frames list k past c does) (node_frames list k past d does)
frames-alike list script slot k past c d Send valid same = (
  record {
    sender = refl;
    taken = λ ch.
        let place = coming_place list past in
        flipped-alike list (header_of (kind_at list place.round place.slot)) (own_cstate list k past)
        (payload_sent list place c) (payload_sent list place d) (flipped_bits script k ch slot)
        (payload-long (carries_payload list place) c.payload d.payload same)
        (mask-header list script k slot ch valid);
  },
  tt,
)
frames-alike list script slot k past c d Start valid same =
    (record { sender = refl; taken = λ ch. same-alike list _ }, tt)
frames-alike list script slot k past c d _ valid same = tt

alike-append : (list : Medl) (script : Script) (slot : ℕ) (ones others more more_too : List SentFrame)
    → AreAllSentAlike list script slot ones others → AreAllSentAlike list script slot more more_too
    → AreAllSentAlike list script slot (ones ++ more) (others ++ more_too)
alike-append list script slot [] [] more more_too alike rest = rest
alike-append list script slot (one ∷ ones) (other ∷ others) more more_too alike rest =
    (alike.0, alike-append list script slot ones others more more_too alike.1 rest)
alike-append list script slot ones others more more_too alike rest = absurd alike

alike-each : (list : Medl) (script : Script) (slot n : ℕ) (f g : ℕ → List SentFrame)
    → ((k : ℕ) → k < n → AreAllSentAlike list script slot (f k) (g k)) → (ks : List ℕ)
    → AllByRecursion (λ k. k < n) ks → AreAllSentAlike list script slot (flat_map f ks) (flat_map g ks)
alike-each list script slot n f g each [] within = tt
alike-each list script slot n f g each (k ∷ ks) within =
    alike-append list script slot (f k) (g k) (flat_map f ks) (flat_map g ks) (each k within.0)
    (alike-each list script slot n f g each ks within.1)

pub frames_in-alike : (s : BegunSlot) (cs ds : List Chosen) → IsValidScript s.list s.script → AreAsLong s cs ds
    → AreAllSentAlike s.list s.script s.number (frames_in s cs) (frames_in s ds)
frames_in-alike s cs ds valid long =
    alike-each s.list s.script s.number (length s.list.slots) (frames_of s cs) (frames_of s ds)
    (λ k node. frames-alike s.list s.script s.number k (node_of s k).past (chosen_of cs k) (chosen_of ds k)
    (node_of s k).act valid (long.same k node))
    (below (length s.list.slots)) (below-lt (length s.list.slots))

-- Entries, but for the numbers in them.

new_entry-alike : (list : Medl) (k : ℕ) (past : NodePast) (c d : Chosen) (h g : Hearing) (does : Act)
    → AreSignalsAlike list h.a g.a → AreSignalsAlike list h.b g.b → h.deviation ≡ g.deviation
    → unnumbered (new_entry list k past c h does) ≡ unnumbered (new_entry list k past d g does)
new_entry-alike list k past c d h g Listen a b at =
    ap unnumbered (listening-alike list h.deviation h.a h.b g.a g.b a b
    ∙ ap (λ (deviation : ℕ → ℤ). new_entry list k past d
    (record { a = g.a; b = g.b; deviation = deviation }) Listen) at)
new_entry-alike list k past c d h g Judge a b at =
    ap unnumbered (judging-alike list k past h.deviation h.a h.b g.a g.b a b
    ∙ ap (λ (deviation : ℕ → ℤ). new_entry list k past d
    (record { a = g.a; b = g.b; deviation = deviation }) Judge) at)
new_entry-alike list k past c d h g _ a b at = refl

entry_in-alike : (s : BegunSlot) (cs ds : List Chosen) (k : ℕ) → IsValidScript s.list s.script → AreAsLong s cs ds
    → unnumbered (entry_in s cs (frames_in s cs) k) ≡ unnumbered (entry_in s ds (frames_in s ds) k)
entry_in-alike s cs ds k valid long =
    let alike = frames_in-alike s cs ds valid long in
    new_entry-alike s.list k (node_of s k).past (chosen_of cs k) (chosen_of ds k)
    (hearing_in s (frames_in s cs) k) (hearing_in s (frames_in s ds) k) (node_of s k).act
    (heard-alike s.list s.script s.number k channel.A (frames_in s cs) (frames_in s ds) alike)
    (heard-alike s.list s.script s.number k channel.B (frames_in s cs) (frames_in s ds) alike) refl

pub unnumbered-each : (f g : ℕ → Entry) → ((k : ℕ) → unnumbered (f k) ≡ unnumbered (g k)) → (ks : List ℕ)
    → unnumbered_row (map f ks) ≡ unnumbered_row (map g ks)
unnumbered-each f g same [] = refl
unnumbered-each f g same (k ∷ ks) = λ i. same k i ∷ unnumbered-each f g same ks i

pub row_in-alike : (s : BegunSlot) (cs ds : List Chosen) → IsValidScript s.list s.script → AreAsLong s cs ds
    → unnumbered_row (row_in s cs) ≡ unnumbered_row (row_in s ds)
row_in-alike s cs ds valid long =
    unnumbered-each (entry_in s cs (frames_in s cs)) (entry_in s ds (frames_in s ds))
    (λ k. entry_in-alike s cs ds k valid long) (below (length s.list.slots))
