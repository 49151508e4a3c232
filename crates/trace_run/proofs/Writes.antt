-- What hosts write in a slot, one message after another.
use Rattle.std.proofs.Common.{◌≡◌, ℕ, ◌+◌, ◌<◌, ◌^◌, List, [], ◌∷◌, ◌++◌, length, get_or, set, Some, refl, sym}
use Rattle.std.proofs.Common.{subst, length-append, IsTrue, arith}
use Rattle.std.specs.List.{concat}
use Rattle.ttp_world.specs.declared.medl.Medl.{Medl}
use Rattle.ttp_world.specs.declared.script.Script.{Script}
use Rattle.ttp_world.specs.Legal.{is_legal_message}
use Rattle.ttp_world.specs.Medl.{IsValid}
use Rattle.ttp_world.specs.Script.{HostWrite, writes_in, IsValidScript}
use Rattle.ttp_world.specs.Trace.{more_write_lines}
use Rattle.trace_check.specs.declared.outgoing.Outgoing.{Outgoing}
use Rattle.trace_check.specs.Outgoing.{HasChosen, HoldsNewest}
use Rattle.trace_run.proofs.FromBelow.{HasWritten, written-none, written-more, written-all, number-small}

-- these writes were made, and counted
pub record HasCounted (o : Outgoing) (list : Medl) (script : Script) (slot count : ℕ) (done : List HostWrite)
    : Type 0 where
  pub number : ℕ → ℕ
  pub legal : (k : ℕ) → k < length list.slots → IsTrue (is_legal_message list script slot k (Some (number k)))
  pub written : HasWritten o list script slot number done
  pub counted : count ≡ length done

pub counted-none : (o : Outgoing) (list : Medl) (script : Script) (slot : ℕ) → HasChosen o list script slot
    → HasCounted o list script slot 0 []
counted-none o list script slot has = record {
  number = has.number;
  legal = has.legal;
  written = written-none o list script slot has.number has.chooses;
  counted = refl;
}

module _ (o : Outgoing) (list : Medl) (script : Script) (slot count : ℕ) (done later : List HostWrite)
    (w : HostWrite) (has : HasCounted o list script slot count done) (node : w.host < length list.slots)
    (whole : writes_in script slot ≡ done ++ w ∷ later) where
  pub small-number : IsValid list → IsValidScript list script → slot < 2 ^ 32
      → get_or o.newest.items w.host 0 + 1 < 2 ^ 64
  small-number valid valid_script small =
      number-small o list script slot (concat (more_write_lines list script slot [] done) ++ []) [] done later w
      (record { number = has.number; legal = has.legal; written = has.written; begins = refl }) node whole valid
      valid_script small

  pub counted-more : (new : Outgoing) (told : ℕ) → told ≡ get_or o.newest.items w.host 0 + 1
      → new.newest.items ≡ set o.newest.items w.host told
      → new.chosen.items ≡ set o.chosen.items w.host (record { number = told; payload = w.payload })
      → HasCounted new list script slot (count + 1) (done ++ w ∷ [])
  counted-more new told is newest chosen = record {
    number = has.number;
    legal = has.legal;
    written = written-more o new list script slot has.number done w told has.written node is newest chosen;
    counted = let counted = has.counted in omega (arith, counted, length-append done (w ∷ []));
  }

pub counted-all : (o : Outgoing) (list : Medl) (script : Script) (slot count : ℕ)
    → HasCounted o list script slot count (writes_in script slot) → HoldsNewest o list script (slot + 1)
counted-all o list script slot count has = written-all o list script slot has.number has.written has.legal

pub counted-along : (list : Medl) (script : Script) (slot : ℕ) {o new : Outgoing} {count more : ℕ}
    {done others : List HostWrite} → others ≡ done → new ≡ o → more ≡ count
    → HasCounted o list script slot count done → HasCounted new list script slot more others
counted-along list script slot {o} {new} {count} {more} {done} {others} same same_too same_count has =
    subst (HasCounted new list script slot more) (sym same)
    (subst (λ (p : Outgoing). HasCounted p list script slot more done) (sym same_too)
    (subst (λ n. HasCounted o list script slot n done) (sym same_count) has))
