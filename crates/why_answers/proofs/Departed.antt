-- The newest departure of a node, one slot more.
use Rattle.std.proofs.Common.{◌≡◌, ℕ, ◌+◌, ap, sym, ◌∙◌, refl}
use Rattle.std.proofs.Math.Numerals.{suc-eq-add-one}
use Rattle.std.specs.Prelude.{Option, Some, option_map}
use Rattle.campaign.specs.Cost.{leave_after, newest_leave}
use Rattle.ttp_world.specs.ZerosWorld.{zeros_world}
use Rattle.campaign.specs.declared.cost.Leave.{Leave}
use Rattle.causes.specs.Reduced.{entry_in_run}
use Rattle.ttp_world.proofs.ZerosWorlds.{length-zeros_world}
use Rattle.ttp_world.specs.declared.medl.Medl.{Medl}
use Rattle.ttp_world.specs.declared.node.Entry.{Entry}
use Rattle.ttp_world.specs.declared.node.Reason.{Reason}
use Rattle.ttp_world.specs.declared.script.Script.{Script}
use Rattle.ttp_world.specs.declared.node.Entry.TheVariants as entry
use Rattle.why_answers.specs.Answer.{departure_before}

next : (list : Medl) (script : Script) (slot k : ℕ)
    → departure_before list script (slot + 1) k
    ≡ option_map (λ leave. leave.slot)
    (leave_after k slot (entry_in_run list script slot k) (newest_leave (zeros_world list script slot) k))
next list script slot k =
    ap (λ n. departure_before list script n k) (sym (suc-eq-add-one slot))
    ∙ ap (λ n. option_map (λ leave. leave.slot)
    (leave_after k n (entry_in_run list script slot k) (newest_leave (zeros_world list script slot) k)))
    (length-zeros_world list script slot)

pub departed : (list : Medl) (script : Script) (slot k : ℕ) (e : Entry) (reason : Reason) (peer : ℕ)
    → e ≡ entry_in_run list script slot k → e ≡ entry.Left reason peer
    → Some slot ≡ departure_before list script (slot + 1) k
departed list script slot k e reason peer shown left =
    sym (next list script slot k
    ∙ ap (λ (x : Entry). option_map (λ leave. leave.slot)
    (leave_after k slot x (newest_leave (zeros_world list script slot) k))) (sym shown ∙ left))

same : (k n : ℕ) (e : Entry) (before : Option Leave) → ((reason : Reason) (peer : ℕ) → e ≡ entry.Left reason peer → ⊥)
    → leave_after k n e before ≡ before
same k n entry.Off before stays = refl
same k n entry.Waited before stays = refl
same k n entry.Retried before stays = refl
same k n entry.Gone before stays = refl
same k n entry.Started before stays = refl
same k n (entry.Sent message) before stays = refl
same k n (entry.Joined sender cstate deviation) before stays = refl
same k n (entry.Judged sender v deviation) before stays = refl
same k n (entry.Left reason peer) before stays = absurd (stays reason peer refl)

pub stayed : (list : Medl) (script : Script) (slot k : ℕ) (e : Entry) (before : Option ℕ)
    → e ≡ entry_in_run list script slot k → ((reason : Reason) (peer : ℕ) → e ≡ entry.Left reason peer → ⊥)
    → before ≡ departure_before list script slot k → before ≡ departure_before list script (slot + 1) k
stayed list script slot k e before shown stays is =
    is
    ∙ sym (next list script slot k
    ∙ (ap (λ (x : Entry). option_map (λ leave. leave.slot)
    (leave_after k slot x (newest_leave (zeros_world list script slot) k))) (sym shown)
    ∙ ap (λ (x : Option Leave). option_map (λ leave. leave.slot) x)
    (same k slot e (newest_leave (zeros_world list script slot) k) stays)))
