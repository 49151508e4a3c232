-- The sound nodes of a plan begin together at the start, and in each slot since they are at its place.
use Rattle.safety_laws.proofs.Words.{◌≡◌, ◌≢◌, ℕ, zero, suc, ◌+◌, ℤ, List, [], ◌∷◌, length, inl, inr, refl, ap, sym}
use Rattle.safety_laws.proofs.Words.{subst, ◌∙◌, arith, cases_eq, Medl, Entry, Script, cold_start_cstate, History}
use Rattle.safety_laws.proofs.Words.{entry_of, diary_of, start_place, stint_place, ClusterStart, BeginsOn}
use Rattle.safety_laws.proofs.Words.{BeganTogether, measured, FaultPlan, is_sound_after, FollowsPlan, StartedByPlan}
use Rattle.safety_laws.proofs.Words.{NotedByPlan}
use Rattle.ttp_world.specs.declared.node.Entry.TheVariants as entry
use Rattle.safety_laws.proofs.RoundNotes.{Counted, counted-start, counted-next}

-- The start.

begins-with : (list : Medl) (script : Script) (history : History) (p k : ℕ) (e : Entry) → (k ≡ p → e ≡ entry.Started)
    → (k ≢ p → e ≡ entry.Joined p (cold_start_cstate p) (measured list script history k p))
    → BeginsOn list script history p (start_place p) k e
begins-with list script history p k e starts joins = elim (cases_eq k p) [
  | inl same ↦
      subst (BeginsOn list script history p (start_place p) k) (sym (starts same)) (same, ap start_place (sym same))
  | inr other ↦ subst (BeginsOn list script history p (start_place p) k) (sym (joins other)) (refl, refl)
]

pub began : (list : Medl) (script : Script) (start : ClusterStart) (plan : FaultPlan) (row : List Entry)
    (history : History)
    → FollowsPlan list script start plan → StartedByPlan list script start plan row history
    → BeganTogether list script (is_sound_after plan 0) row history
began list script start plan row history follows started = record {
  sender = start.node;
  place = start_place start.node;
  inside = omega (arith, follows.good.starter.0, follows.starter, follows.nodes);
  begins = λ k p. begins-with list script history start.node k (entry_of row k)
      (λ same. ap (entry_of row) same ∙ started.starter) (λ other. started.joins k p other);
}

begun-place : (list : Medl) (p k : ℕ) (deviation : ℤ) (diary : List Entry) (e : Entry) → (k ≡ p → e ≡ entry.Started)
    → (k ≢ p → e ≡ entry.Joined p (cold_start_cstate p) deviation) → stint_place list k (e ∷ diary) ≡ start_place p
begun-place list p k deviation diary e starts joins = elim (cases_eq k p) [
  | inl same ↦ ap (λ f. stint_place list k (f ∷ diary)) (starts same) ∙ ap start_place same
  | inr other ↦ ap (λ f. stint_place list k (f ∷ diary)) (joins other)
]

counted-begun : (list : Medl) (script : Script) (start : ClusterStart) (plan : FaultPlan) (row : List Entry)
    (history : History) → FollowsPlan list script start plan → StartedByPlan list script start plan row history
    → Counted list plan 0 (row ∷ history)
counted-begun list script start plan row history follows started =
    counted-start list script start plan row history (λ k p.
    begun-place list start.node k (measured list script history k start.node) (diary_of history k) (entry_of row k)
    (λ same. ap (entry_of row) same ∙ started.starter) (λ other. started.joins k p other)
    ∙ ap start_place (sym follows.starter))

-- The run.

-- how many slots were before the newest one
pub number-of : (list : Medl) (script : Script) (start : ClusterStart) (plan : FaultPlan) (slot : ℕ) (history : History)
    → NotedByPlan list script start plan slot history → length history ≡ suc (start.slot + slot)
number-of list script start plan slot [] noted = absurd noted
number-of list script start plan zero (row ∷ history) noted = omega (arith, noted.number)
number-of list script start plan (suc slot) (row ∷ history) noted =
    omega (arith, number-of list script start plan slot history noted.0)

pub counted-run : (list : Medl) (script : Script) (start : ClusterStart) (plan : FaultPlan) (slot : ℕ)
    (history : History)
    → FollowsPlan list script start plan → NotedByPlan list script start plan slot history
    → Counted list plan slot history
counted-run list script start plan slot [] follows noted = absurd noted
counted-run list script start plan zero (row ∷ history) follows noted =
    counted-begun list script start plan row history follows noted
counted-run list script start plan (suc slot) (row ∷ history) follows noted =
    counted-next list script start plan slot row history follows noted.1
    (counted-run list script start plan slot history follows noted.0)
