-- Runs that differ in the messages of their frames alone cost the same.
use Rattle.std.proofs.Common.{◌≡◌, ℕ, ◌-◌, ◌<◌, Bool, true, List, [], ◌∷◌, length, Option, Some, None}
use Rattle.std.proofs.Common.{refl, ap, sym, ◌∙◌, not, ◌&&◌, ◌||◌, arith}
use Rattle.std.specs.Prelude.{filter, if◌then◌else◌}
use Rattle.std.specs.List.{filter_map, cons_option, AllByRecursion}
use Rattle.std.proofs.lemmas.List.{length-map}
use Rattle.ttp_base.proofs.Below.{below-lt}
use Rattle.ttp_world.specs.declared.medl.Medl.{Medl}
use Rattle.ttp_world.specs.declared.node.Entry.{Entry}
use Rattle.ttp_world.specs.declared.node.Entry.TheVariants as entry
use Rattle.ttp_world.specs.declared.script.Script.{Script}
use Rattle.ttp_world.specs.Acknowledgement.{is_doubt}
use Rattle.ttp_world.specs.Diary.{History, is_active_phase}
use Rattle.ttp_world.specs.Hypothesis.{nodes_of}
use Rattle.ttp_world.specs.Past.{NodePast}
use Rattle.ttp_world.specs.Returning.{is_sound}
use Rattle.frame_fates.specs.Alike.{unnumbered, unnumbered_row, unnumbered_history}
use Rattle.frame_fates.specs.Runs.{AreRuns}
use Rattle.campaign_laws.proofs.FromBelow.{older, runs-pasts, runs-entries, entry_of-unnumbered}
use Rattle.campaign.specs.Cost.{leave_after, newest_leave, leaves, is_hurt_in, is_hurt, hurt_nodes}
use Rattle.campaign.specs.Cost.{faulty_by_test, firm_members, each_once, memberships, has_two, is_split, span_after}
use Rattle.campaign.specs.Cost.{split_span, cost_of}
use Rattle.campaign.specs.declared.cost.Leave.{Leave}

-- Who left, and who was hurt: by entries, whatever number a frame's message has.

leave_after-unnumbered : (k slot : ℕ) (e : Entry) (before : Option Leave)
    → leave_after k slot (unnumbered e) before ≡ leave_after k slot e before
leave_after-unnumbered k slot entry.Off before = refl
leave_after-unnumbered k slot e before = refl

is_hurt_in-unnumbered : (list : Medl) (script : Script) (slot k : ℕ) (e : Entry)
    → is_hurt_in list script slot k (unnumbered e) ≡ is_hurt_in list script slot k e
is_hurt_in-unnumbered list script slot k entry.Off = refl
is_hurt_in-unnumbered list script slot k e = refl

newest_leave-unnumbered : (history : History) (k : ℕ)
    → newest_leave (unnumbered_history history) k ≡ newest_leave history k
newest_leave-unnumbered [] k = refl
newest_leave-unnumbered (row ∷ history) k =
    (λ i. leave_after k (length-map history unnumbered_row i) (entry_of-unnumbered row k i)
    (newest_leave-unnumbered history k i))
    ∙ leave_after-unnumbered k (length history) _ (newest_leave history k)

is_hurt-unnumbered : (list : Medl) (script : Script) (history : History) (k : ℕ)
    → is_hurt list script (unnumbered_history history) k ≡ is_hurt list script history k
is_hurt-unnumbered list script [] k = refl
is_hurt-unnumbered list script (row ∷ history) k =
    (λ i. is_hurt_in list script (length-map history unnumbered_row i) k (entry_of-unnumbered row k i)
    || is_hurt-unnumbered list script history k i)
    ∙ ap (λ b. b || is_hurt list script history k) (is_hurt_in-unnumbered list script (length history) k _)

leaves-alike : (list : Medl) (script : Script) (one other : History) → AreRuns list script one other
    → leaves list one ≡ leaves list other
leaves-alike list script one other runs =
    sym (unnumbered-leaves one) ∙ ap (leaves list) (runs-entries list script one other runs) ∙ unnumbered-leaves other
  where
    unnumbered-leaves : (history : History) → leaves list (unnumbered_history history) ≡ leaves list history
    unnumbered-leaves history = λ i. filter_map (λ k. newest_leave-unnumbered history k i) (nodes_of list)

hurt_nodes-alike : (list : Medl) (script : Script) (one other : History) → AreRuns list script one other
    → hurt_nodes list script one ≡ hurt_nodes list script other
hurt_nodes-alike list script one other runs =
    sym (unnumbered-hurt one) ∙ ap (hurt_nodes list script) (runs-entries list script one other runs)
    ∙ unnumbered-hurt other
  where
    unnumbered-hurt : (history : History)
        → hurt_nodes list script (unnumbered_history history) ≡ hurt_nodes list script history
    unnumbered-hurt history = λ i. filter (λ k. is_hurt-unnumbered list script history k i) (nodes_of list)

-- Memberships: by what is read of each node's past.

filter_map-agree : {X : Type 0} (f g : ℕ → Option X) (n : ℕ) (ks : List ℕ) → ((k : ℕ) → k < n → f k ≡ g k)
    → AllByRecursion (λ k. k < n) ks → filter_map f ks ≡ filter_map g ks
filter_map-agree f g n [] agree within = refl
filter_map-agree f g n (k ∷ ks) agree within = λ i.
    cons_option (agree k within.0 i) (filter_map-agree f g n ks agree within.1 i)

memberships-alike : (list : Medl) (script : Script) (one other : History) (among : ℕ → Bool)
    → AreRuns list script one other → memberships list one among ≡ memberships list other among
memberships-alike list script one other among runs =
    ap each_once
    (filter_map-agree (firm_members list one among) (firm_members list other among) (length list.slots) (nodes_of list)
    (λ k node. ap
    (λ (past : NodePast). if (is_active_phase past.phase && not (is_doubt past.ack))
    && among k then Some past.members else None)
    ((runs-pasts list script one other runs).pasts k node))
    (below-lt (length list.slots)))

is_split-alike : (list : Medl) (script : Script) (one other : History) → AreRuns list script one other
    → is_split list script one ≡ is_split list script other
is_split-alike list script one other runs =
    ap (λ n. has_two (memberships list one (is_sound script (faulty_by_test list script (n - 1)) (n - 1)))) runs.slots
    ∙ ap has_two
    (memberships-alike list script one other
    (is_sound script (faulty_by_test list script (length other - 1)) (length other - 1)) runs)

split_span-alike : (list : Medl) (script : Script) (one other : History) → AreRuns list script one other
    → split_span list script one ≡ split_span list script other
split_span-alike list script [] [] runs = refl
split_span-alike list script [] (row ∷ other) runs = absurd (omega (arith, runs.slots))
split_span-alike list script (row ∷ one) [] runs = absurd (omega (arith, runs.slots))
split_span-alike list script (row ∷ one) (row_too ∷ other) runs =
    let now = is_split-alike list script (row ∷ one) (row_too ∷ other) runs in
    λ i. span_after ((older runs).slots i) (now i) (split_span-alike list script one other (older runs) i)

pub cost-alike : (list : Medl) (script : Script) (one other : History) → AreRuns list script one other
    → cost_of list script one ≡ cost_of list script other
cost-alike list script one other runs = λ i. record {
  left = leaves-alike list script one other runs i;
  hurt = hurt_nodes-alike list script one other runs i;
  split = split_span-alike list script one other runs i;
  end = memberships-alike list script one other (λ k. true) runs i;
}
