-- A trace has fewer lines than 2^32, and whole lines as many line feeds as they are.
use Rattle.trace_check.proofs.Words.{◌≡◌, ℕ, zero, suc, ◌+◌, ◌-◌, ◌*◌, ◌<◌, ◌≤◌, ◌^◌, Bool, true, false, cond, List, []}
use Rattle.trace_check.proofs.Words.{◌∷◌, ◌++◌, Option, Some, None, length, take, refl, ap, ◌∙◌, arith, length-append}
use Rattle.trace_check.proofs.Words.{◌==◌, count_by, concat, filter_map, cons_option, false≢true, length-take}
use Rattle.trace_check.proofs.Words.{take-append_seam, Lines, is_line, Medl, Script, IsValid, IsValidScript}
use Rattle.trace_check.proofs.Words.{trace_lines, nodes-most, trace_lines-each, IsFirstWrong, IsTraceAnd, IsAmissAt}
use Rattle.trace_check.proofs.Words.{AreLines, AreLines-take}
use Rattle.std.proofs.lemmas.Bool.{eqb-true}
use Rattle.std.proofs.lemmas.List.Sums.{sum_by-append}
use Rattle.ttp_base.specs.Text.{is_newline}
use Rattle.ttp_world.specs.declared.script.Event.{Event}
use Rattle.ttp_world.specs.declared.script.Event.TheVariants as event
use Rattle.ttp_world.specs.Script.{is_host_event, write_in, read_in}
use Rattle.trace_check.proofs.Counts.{lines_of_slots, lines_in_all, length-test_lines, length-trace_lines}
use Rattle.trace_check.proofs.Outcomes.{amiss-first_wrong, more-first_wrong}

-- Counting.

count-cons : {X : Type 0} (p : X → Bool) (x : X) (xs : List X) → count_by p (x ∷ xs) ≡ cond (p x) 1 0 + count_by p xs
count-cons p x xs = omega (arith, sum_by-append (λ y. cond (p y) 1 0) (x ∷ []) xs)

count-append : (p : ℕ → Bool) (xs ys : List ℕ) → count_by p (xs ++ ys) ≡ count_by p xs + count_by p ys
count-append p xs ys = sum_by-append (λ y. cond (p y) 1 0) xs ys

-- Hosts write and read no more often in a slot than in the whole run.

length-none : {Y : Type 0} (f : Event → Option Y) (e : Event) (events : List Event) → f e ≡ None
    → length (filter_map f (e ∷ events)) ≡ length (filter_map f events)
length-none f e events is = ap (λ (o : Option _). length (cons_option o (filter_map f events))) is

length-any : {Y : Type 0} (o : Option Y) (ys : List Y) → length (cons_option o ys) ≤ suc (length ys)
length-any None ys = omega arith
length-any (Some y) ys = omega arith

length-more : {Y : Type 0} (f : Event → Option Y) (e : Event) (events : List Event)
    → length (filter_map f (e ∷ events)) ≤ suc (length (filter_map f events))
length-more f e events = length-any (f e) (filter_map f events)

-- what hosts do in a slot, of some events
abbrev acts_in : ℕ → List Event → ℕ
acts_in slot events = length (filter_map (write_in slot) events) + length (filter_map (read_in slot) events)

no_host : (slot : ℕ) (e : Event) (events : List Event) → write_in slot e ≡ None → read_in slot e ≡ None
    → acts_in slot events ≤ count_by is_host_event events
    → acts_in slot (e ∷ events) ≤ count_by is_host_event (e ∷ events)
no_host slot e events write read others =
    omega (
      arith,
      others,
      length-none (write_in slot) e events write,
      length-none (read_in slot) e events read,
      count-cons is_host_event e events,
    )

hosts_in : (slot : ℕ) (events : List Event) → acts_in slot events ≤ count_by is_host_event events
hosts_in slot [] = omega arith
hosts_in slot (event.Write node at payload ∷ events) =
    let e = event.Write node at payload in
    omega (
      arith,
      hosts_in slot events,
      length-more (write_in slot) e events,
      length-none (read_in slot) e events refl,
      count-cons is_host_event e events,
    )
hosts_in slot (event.Read node at from ∷ events) =
    let e = event.Read node at from in
    omega (
      arith,
      hosts_in slot events,
      length-none (write_in slot) e events refl,
      length-more (read_in slot) e events,
      count-cons is_host_event e events,
    )
hosts_in slot (event.Send node channels f from to ∷ events) =
    no_host slot (event.Send node channels f from to) events refl refl (hosts_in slot events)
hosts_in slot (event.Receive node channels f from to ∷ events) =
    no_host slot (event.Receive node channels f from to) events refl refl (hosts_in slot events)
hosts_in slot (event.Flip node channels bit at ∷ events) =
    no_host slot (event.Flip node channels bit at) events refl refl (hosts_in slot events)
hosts_in slot (event.Error node value from to ∷ events) =
    no_host slot (event.Error node value from to) events refl refl (hosts_in slot events)
hosts_in slot (event.Jump node value at ∷ events) =
    no_host slot (event.Jump node value at) events refl refl (hosts_in slot events)
hosts_in slot (event.Arm node at ∷ events) =
    no_host slot (event.Arm node at) events refl refl (hosts_in slot events)

few_in_slots : (list : Medl) (script : Script) (slots : ℕ) → IsValid list → IsValidScript list script
    → lines_of_slots list script slots ≤ slots * 95349
few_in_slots list script zero valid valid_script = omega arith
few_in_slots list script (suc slots) valid valid_script =
    omega (
      arith,
      few_in_slots list script slots valid valid_script,
      nodes-most list valid,
      hosts_in slots script.events,
      valid_script.host_event_count,
    )

few_lines : (list : Medl) (script : Script) → IsValid list → IsValidScript list script
    → lines_in_all list script + 1 < 2 ^ 32
few_lines list script valid valid_script =
    omega (
      arith,
      few_in_slots list script script.slots valid valid_script,
      valid_script.slots,
      length-test_lines list script,
    )

-- Line feeds.

feeds-last : (feed : Bool) (bytes : List ℕ) → cond feed (length bytes == 0) (is_line bytes) ≡ true
    → (is_line bytes ≡ true → count_by is_newline bytes ≡ 1) → cond feed 1 0 + count_by is_newline bytes ≡ 1
feeds-last true [] is rest = omega arith
feeds-last true (c ∷ bytes) is rest = absurd (omega (arith, eqb-true (length (c ∷ bytes)) 0 is))
feeds-last false bytes is rest = omega (arith, rest is)

feeds-line : (line : List ℕ) → is_line line ≡ true → count_by is_newline line ≡ 1
feeds-line [] is = absurd (false≢true is)
feeds-line (b ∷ line) is = count-cons is_newline b line ∙ feeds-last (b == 10) line is (feeds-line line)

feeds-lines : (lines : Lines) → AreLines lines → count_by is_newline (concat lines) ≡ length lines
feeds-lines [] are = refl
feeds-lines (line ∷ lines) are =
    omega (
      arith,
      count-append is_newline line (concat lines),
      feeds-line line are.0,
      feeds-lines lines are.1,
    )

-- What a text has before the rest of it.

front_of : (text front rest : List ℕ) → text ≡ front ++ rest → take (length text - length rest) text ≡ front
front_of text front rest is =
    let long : length text - length rest ≡ length front = omega (arith, ap length is, length-append front rest) in
    (λ i. take (long i) (is i)) ∙ take-append_seam front rest

-- so many lines are right in a text before a rest of it, and the next one is the first wrong one
pub record IsWrongBehind (list : Medl) (script : Script) (text rest : List ℕ) : Type 0 where
  pub lines : ℕ
  pub counted : count_by is_newline (take (length text - length rest) text) ≡ lines
  pub first : IsFirstWrong list script text (lines + 1)
  pub few : lines + 1 < 2 ^ 32

pub amiss-counted : (list : Medl) (script : Script) (text rest : List ℕ) → IsValid list → IsValidScript list script
    → IsAmissAt list script text rest → IsWrongBehind list script text rest
amiss-counted list script text rest valid valid_script amiss =
    let all = trace_lines list script amiss.numbers in
    let front = take amiss.right all in
    let many : length front ≡ amiss.right = omega (arith, length-take amiss.right all, amiss.within) in
    record {
      lines = amiss.right;
      counted =
          ap (count_by is_newline) (front_of text (concat front) rest amiss.begins)
          ∙ feeds-lines front (AreLines-take amiss.right all (trace_lines-each list script amiss.numbers)) ∙ many;
      first = amiss-first_wrong list script text rest amiss;
      few =
          omega (
            arith,
            few_lines list script valid valid_script,
            amiss.within,
            length-trace_lines list script amiss.numbers amiss.legal,
          );
    }

pub more-counted : (list : Medl) (script : Script) (text rest : List ℕ) → IsValid list → IsValidScript list script
    → IsTraceAnd list script text rest → 1 ≤ length rest → IsWrongBehind list script text rest
more-counted list script text rest valid valid_script trace some =
    let all = trace_lines list script trace.numbers in
    let many = length-trace_lines list script trace.numbers trace.legal in
    record {
      lines = lines_in_all list script;
      counted =
          ap (count_by is_newline) (front_of text (concat all) rest trace.begins)
          ∙ feeds-lines all (trace_lines-each list script trace.numbers) ∙ many;
      first = more-first_wrong list script text rest trace some;
      few = omega (arith, few_lines list script valid valid_script);
    }
