-- What a call comes to whose library is sure of its files and whose sink is sure to take what is written: no count
-- stands between right files and what is due for them. For a caller, who has the promise of a call and knows what it
-- gave it.
use Rattle.std.proofs.Common.{◌≡◌, ◌≢◌, ◌⊎◌, ℕ, ◌<◌, ◌≤◌, true, List, [], length}
use Rattle.std.proofs.Common.{Option, Some, Ok, refl, ap, sym, subst, ◌∙◌, inl, inr, arith}
use Rattle.std.specs.List.{concat}
use Rattle.std.specs.Io.KnownBytes.{Appends}
use Rattle.std.specs.Result.{result_ok}
use Rattle.std.proofs.lemmas.Bool.{cases_lt}
use Rattle.std.proofs.lemmas.Option.{same_Some}
use Rattle.ttp_base.specs.declared.memory_library.MemoryLibrary.{MemoryLibrary}
use Rattle.ttp_base.specs.MemoryLibrary.{library_held, library_fail, library_sure, library_files}
use Rattle.ttp_base.specs.Outside.{Held, holds, Files, HasRisen, NoneRose, NoneCounted, count_end, Output, Wrote}
use Rattle.ttp_world.specs.declared.medl.Medl.{Medl}
use Rattle.ttp_world.specs.declared.script.Script.{Script}
use Rattle.script_text.specs.ScriptFile.{script_of}
use Rattle.commands.specs.Plan.{Outside, Plan}
use Rattle.commands.specs.Promise.{IsUnfinished, Promise}
use Rattle.commands.specs.Right.{MayBe, AreRight, AreTold}
use Rattle.commands.specs.Texts.{Program, Answer}

-- ---- what is held

-- these bytes are held under a name, the library is sure of it, and its count can still rise
pub record HoldsSurely (files : Files) (name bytes : List ℕ) : Type 0 where
  pub held : files.held name ≡ holds bytes
  pub sure : files.sure name ≡ true
  pub counts : files.faults name < count_end

-- no fault was counted where none was before and no count rose, as where bytes are added
pub still_none_counted : {before now : Files} → NoneCounted before → NoneRose before now → NoneCounted now
still_none_counted none same = record { names = λ name. same.names name ∙ none.names name; all = same.all ∙ none.all }

-- a library in memory, no load of which is to fail, and which counted no fault, is sure of what it holds
pub surely_in_memory : (library : MemoryLibrary) (name bytes : List ℕ) → library_fail library ≡ []
    → NoneCounted (library_files library) → library_held library name ≡ holds bytes
    → HoldsSurely (library_files library) name bytes
surely_in_memory library name bytes never none is =
    let sure : library_sure library name ≡ true = rw (never, is) refl in
    record { held = is; sure = sure; counts = omega (arith, none.names name) }

-- bytes that may be held are those that are
may_be-held : {held : Held} {all bytes : List ℕ} → held ≡ holds all → MayBe held bytes → bytes ≡ all
may_be-held {bytes = bytes} is may = subst (λ (h : Held). MayBe h bytes) is may

-- so a list and a script of which a promise speaks are those that the held bytes are
pub right_held : {held script_held : Held} {all script_all bytes script_bytes : List ℕ} {medl : Medl} {right : Script}
    → held ≡ holds all → script_held ≡ holds script_all → MayBe held bytes → MayBe script_held script_bytes
    → AreRight bytes script_bytes medl right → AreRight all script_all medl right
right_held {all = all} {script_bytes = script_bytes} {medl = medl} {right = right} is script_is may script_may are =
    subst (λ (b : List ℕ). AreRight all b medl right) (may_be-held script_is script_may)
    (subst (λ (b : List ℕ). AreRight b script_bytes medl right) (may_be-held is may) are)

-- bytes are one list and one script
pub right_once : {bytes script_bytes : List ℕ} {medl other : Medl} {right another : Script}
    → AreRight bytes script_bytes medl right → AreRight bytes script_bytes other another
    → (medl ≡ other) × (right ≡ another)
right_once {script_bytes = script_bytes} {medl = medl} {other = other} {right = right} {another = another} one two =
    let list = same_Some medl other (ap result_ok (sym one.list ∙ two.list)) in
    let read : script_of other script_bytes ≡ Ok right =
    subst (λ (l : Medl). script_of l script_bytes ≡ Ok right) list one.script in
    (list, same_Some right another (ap result_ok (sym read ∙ two.script)))

-- ---- what is written

-- what was written to an empty sink is all that it has
pub all_written : {before now : Output} {text : List ℕ} {lines : List (List ℕ)} → before.written ≡ Some []
    → now.written ≡ Some text → Wrote before now lines → text ≡ concat lines
all_written {now = now} {lines = lines} empty full wrote =
    subst (λ (n : Option (List ℕ)). Appends (Some []) n (concat lines)) full
    (subst (λ (b : Option (List ℕ)). Appends b now.written (concat lines)) empty wrote.bytes)

-- ---- counts

-- a count that can rise and stood still has not risen
pub not_risen : {before now : ℕ} → before < count_end → now ≡ before → ¬ HasRisen before now
not_risen can same risen = omega (arith, can, same, risen)

module _ {p : Program} {plan : Plan p.Sets} {before now : Outside} {answer : Answer p.Kept}
    (call : Promise p plan before now answer) where
  -- no count rose of a name of which the library is sure
  pub none_rose : (name : List ℕ) → before.files.sure name ≡ true → before.files.faults name < count_end
      → ¬ HasRisen (before.files.faults name) (now.files.faults name)
  none_rose name sure can = not_risen can (call.keeps.calm name sure)

  -- right files that are surely held are told
  pub surely_told : {list script bytes script_bytes : List ℕ} {medl : Medl} {right : Script}
      → HoldsSurely before.files list bytes → HoldsSurely before.files script script_bytes
      → AreRight bytes script_bytes medl right → AreTold list script before now medl right
  surely_told {list = list} {script = script} {bytes = bytes} {script_bytes = script_bytes} l s are = record {
    bytes = bytes;
    script_bytes = script_bytes;
    list_file = l.held;
    script_file = s.held;
    are = are;
    list_quiet = none_rose list l.sure l.counts;
    script_quiet = none_rose script s.sure s.counts;
  }

  unfinished_quiet : IsUnfinished p plan before now call.loads → now.output.faults ≡ before.output.faults
  unfinished_quiet (inl none) = none.quiet
  unfinished_quiet (inr some) = some.2.wrote.quiet

  -- but for status 6 the sink counted no fault
  pub sink_quiet : answer.status ≢ 6 → now.output.faults ≡ before.output.faults
  sink_quiet other =
      elim (cases_lt 4 answer.status) [
        | inr low ↦ (call.ended low).2.text.wrote.quiet
        | inl high ↦
            elim (cases_lt 5 answer.status) [
              | inr five ↦ (call.failed (omega (arith, high, five))).2.text.wrote.quiet
              | inl more ↦ unfinished_quiet (call.refused (omega (arith, more, call.statuses, other))).1
            ]
      ]

  -- so what is promised where it counted none comes, or status 6
  pub unless_cut : {A : Type 0} → before.output.faults < count_end
      → (¬ HasRisen before.output.faults now.output.faults → A) → A ⊎ (answer.status ≡ 6)
  unless_cut {A = A} can owed =
      elim (cases_lt 6 answer.status) [
        | inl above ↦ inl (owed (not_risen can (sink_quiet (λ six. omega (arith, above, six)))))
        | inr within ↦
            elim (cases_lt answer.status 6) [
              | inl below ↦ inl (owed (not_risen can (sink_quiet (λ six. omega (arith, below, six)))))
              | inr least ↦ inr (omega (arith, within, least))
            ]
      ]
