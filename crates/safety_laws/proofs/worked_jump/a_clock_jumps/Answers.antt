use Rattle.safety_laws.proofs.Words.{◌≡◌, ◌≢◌, ℕ, zero, suc, ◌<◌, true, List, ◌∷◌, length, Some, refl, sym, subst, ◌∙◌}
use Rattle.safety_laws.proofs.Words.{arith, false≢true, ints, members_in, with_node, Entry, cold_start_cstate, History}
use Rattle.safety_laws.proofs.Words.{entry_of, ClusterStart, IsValid, TellsOf, measured, Jumping, fault_plan_of, sender}
use Rattle.safety_laws.proofs.Words.{Falling, Sound, fate_of, is_sound_after, is_good_slot, FollowsWithin, KeepsByPlan}
use Rattle.safety_laws.proofs.Words.{kept-plan, NotesNothing, NotedInSlot, StartedByPlan, NotedByPlan}
use Rattle.std.proofs.lemmas.Bool.{true≢false}
use Rattle.ttp_world.specs.declared.node.Entry.TheVariants as entry
use Rattle.ttp_world.specs.Medl.{IsValidSlot}
use Rattle.precision.specs.WorkedRun.{bare_slot}
use Rattle.safety_laws.specs.WorkedJump.{five_clocks, late_jump, five_clocks_start, one_jump, last_row}
use Rattle.safety_laws.specs.WorkedJump.{older_rows}
use Rattle.safety_laws.proofs.worked_jump.a_clock_jumps.Goals as goal

-- what is so of each of the five
abbrev OfFive : (ℕ → Type 0) → Type 0
OfFive P = P 0 × P 1 × P 2 × P 3 × P 4

each : (P : ℕ → Type 0) → OfFive P → (k : ℕ) → k < length five_clocks.slots → P k
each P all zero p = all.0
each P all (suc zero) p = all.1
each P all (suc (suc zero)) p = all.2
each P all (suc (suc (suc zero))) p = all.3
each P all (suc (suc (suc (suc zero)))) p = all.4
each P all (suc (suc (suc (suc (suc k))))) p = absurd (omega (arith, p))

-- one slot more, after which all are sound
and-noted : (slot : ℕ) (row : List Entry) (history : History) → OfFive (λ k. fate_of one_jump (suc slot) k ≡ Sound)
    → is_good_slot one_jump (suc slot) ≡ true
    → OfFive (λ k. TellsOf five_clocks late_jump history (sender one_jump (suc slot)) k (entry_of row k))
    → NotedByPlan five_clocks late_jump five_clocks_start one_jump slot history
    → NotedByPlan five_clocks late_jump five_clocks_start one_jump (suc slot) (row ∷ history)
and-noted slot row history sound good tells before = (
  before,
  record {
    good = λ k is p none. each
        (λ j. TellsOf five_clocks late_jump history (sender one_jump (suc slot)) j (entry_of row j))
        tells k p.0;
    begins = λ k inside enter. absurd (false≢true enter);
    other = λ k is p. absurd (true≢false (sym good ∙ is));
    jumped = λ k since p is. never k since (each (λ j. fate_of one_jump (suc slot) j ≡ Sound) sound k p) is;
  },
)
  where
    never : (k since : ℕ) → fate_of one_jump (suc slot) k ≡ Sound
        → fate_of one_jump (suc slot) k ≡ Falling Jumping since → NotesNothing (entry_of row k)
    never k since is falls = cc

bare-valid : IsValidSlot 1 1 bare_slot
bare-valid = record {
  kinds = refl;
  payload = omega arith;
  bare = λ all. refl;
  requests = λ asks. cc;
  live = omega arith;
}

list-valid : IsValid five_clocks
list-valid = record {
  version = (omega arith, omega arith);
  rounds = (omega arith, omega arith);
  schedule = omega arith;
  buffers = (omega arith, omega arith);
  drift = (omega (arith, ints), omega (arith, ints));
  error = (omega (arith, ints), omega (arith, ints));
  window = (omega (arith, ints), omega (arith, ints));
  modes = (omega arith, omega arith);
  count = (omega arith, omega arith);
  slots = (bare-valid, (bare-valid, (bare-valid, (bare-valid, (bare-valid, tt)))));
  sync = omega arith;
}

kept : KeepsByPlan five_clocks late_jump 10
unfolding members_in with_node
kept = kept-plan five_clocks late_jump 10 list-valid refl

same-start : (start : ClusterStart) → Some five_clocks_start ≡ Some start → start ≡ five_clocks_start
same-start start is = cc

follows-plan : FollowsWithin five_clocks late_jump five_clocks_start one_jump
unfolding members_in with_node
follows-plan =
    subst (λ start. FollowsWithin five_clocks late_jump start (fault_plan_of five_clocks late_jump start))
    (same-start kept.start kept.started) kept.follows

pub returns-clause-keeps : goal.returns-clause-keeps
unfolding members_in with_node
returns-clause-keeps c = refl

pub returns-clause-valid : goal.returns-clause-valid
returns-clause-valid c = list-valid

pub returns-clause-follows : goal.returns-clause-follows
returns-clause-follows c = follows-plan

pub returns-clause-world : goal.returns-clause-world
unfolding members_in with_node
returns-clause-world c = refl

pub returns-clause-sound : goal.returns-clause-sound
unfolding members_in with_node
returns-clause-sound c = refl

pub returns-clause-frame : goal.returns-clause-frame
unfolding members_in with_node
returns-clause-frame c = refl

pub returns-clause-others : goal.returns-clause-others
unfolding members_in with_node
returns-clause-others c = refl

start-noted : (history : History) (row : List Entry) → length history ≡ 10 → entry_of row 0 ≡ entry.Started
    → OfFive (λ k. k ≢ 0
    → entry_of row k ≡ entry.Joined 0 (cold_start_cstate 0) (measured five_clocks late_jump history k 0))
    → StartedByPlan five_clocks late_jump five_clocks_start one_jump row history
start-noted history row number starts joins = record {
  number = number;
  starter = starts;
  joins = λ k p other. each (λ j. j ≢ 0
      → entry_of row j ≡ entry.Joined 0 (cold_start_cstate 0) (measured five_clocks late_jump history j 0)) joins k p.0
      other;
}

-- the slot of the jump
jump-noted : (history : History) → TellsOf five_clocks late_jump history 4 0 (entry_of last_row 0)
    → TellsOf five_clocks late_jump history 4 1 (entry_of last_row 1)
    → TellsOf five_clocks late_jump history 4 2 (entry_of last_row 2)
    → NotedInSlot five_clocks late_jump one_jump 14 last_row history
jump-noted history a b c = record {
  good = λ k is p none. each
      (λ j. is_sound_after one_jump 14 j ≡ true → TellsOf five_clocks late_jump history 4 j (entry_of last_row j))
      (λ sound. a, λ sound. b, λ sound. c, λ sound. absurd (false≢true sound), λ sound. refl) k p.0 p.1;
  begins = λ k inside enter. absurd (false≢true enter);
  other = λ k is p. absurd (true≢false is);
  jumped = λ k since p is. each
      (λ j. fate_of one_jump 14 j ≡ Falling Jumping since → NotesNothing (entry_of last_row j))
      (λ falls. cc, λ falls. cc, λ falls. cc, λ falls. refl, λ falls. cc) k p is;
}

before-noted : NotedByPlan five_clocks late_jump five_clocks_start one_jump 13 older_rows
unfolding members_in with_node
before-noted =
    and-noted 12 _ _ (refl, refl, refl, refl, refl) refl ((refl, refl), (refl, refl), (refl, refl), refl, (refl, refl))
    (and-noted 11 _ _ (refl, refl, refl, refl, refl) refl ((refl, refl), (refl, refl), refl, (refl, refl), (refl, refl))
    (and-noted 10 _ _ (refl, refl, refl, refl, refl) refl ((refl, refl), refl, (refl, refl), (refl, refl), (refl, refl))
    (and-noted 9 _ _ (refl, refl, refl, refl, refl) refl (refl, (refl, refl), (refl, refl), (refl, refl), (refl, refl))
    (and-noted 8 _ _ (refl, refl, refl, refl, refl) refl ((refl, refl), (refl, refl), (refl, refl), (refl, refl), refl)
    (and-noted 7 _ _ (refl, refl, refl, refl, refl) refl ((refl, refl), (refl, refl), (refl, refl), refl, (refl, refl))
    (and-noted 6 _ _ (refl, refl, refl, refl, refl) refl ((refl, refl), (refl, refl), refl, (refl, refl), (refl, refl))
    (and-noted 5 _ _ (refl, refl, refl, refl, refl) refl ((refl, refl), refl, (refl, refl), (refl, refl), (refl, refl))
    (and-noted 4 _ _ (refl, refl, refl, refl, refl) refl (refl, (refl, refl), (refl, refl), (refl, refl), (refl, refl))
    (and-noted 3 _ _ (refl, refl, refl, refl, refl) refl ((refl, refl), (refl, refl), (refl, refl), (refl, refl), refl)
    (and-noted 2 _ _ (refl, refl, refl, refl, refl) refl ((refl, refl), (refl, refl), (refl, refl), refl, (refl, refl))
    (and-noted 1 _ _ (refl, refl, refl, refl, refl) refl ((refl, refl), (refl, refl), refl, (refl, refl), (refl, refl))
    (and-noted 0 _ _ (refl, refl, refl, refl, refl) refl ((refl, refl), refl, (refl, refl), (refl, refl), (refl, refl))
    (start-noted _ _ refl refl (λ o. absurd (o refl), λ o. refl, λ o. refl, λ o. refl, λ o. refl))))))))))))))

pub returns-clause-noted : goal.returns-clause-noted
unfolding members_in with_node
returns-clause-noted c = (before-noted, jump-noted _ (refl, refl) (refl, refl) (refl, refl))
