use Rattle.trace_check.proofs.Words.{◌≡◌, ◌∙◌, ℕ, [], Some, None, refl, ap, sym, ◌==◌, option_map, slice_get}
use Rattle.trace_check.proofs.Words.{get_or_from_slice_get, words_of, numeral_in, message_digits}
use Rattle.std.proofs.Common.{rules, tests}
use Rattle.std.proofs.lemmas.Iterator.Consumers.{nth_from_yields_List}
use Rattle.std.proofs.lemmas.Iterator.Splits.{YieldsList-from_slice_split}
use Rattle.std.proofs.lemmas.List.{get_or_past}
use Rattle.trace_check.proofs.Taken.{past_end}
use Rattle.trace_check.proofs.text.number_by_line.Goals as goal

no_numeral : numeral_in message_digits [] ≡ None
unfolding numeral_in
no_numeral = refl

pub returns-in-Some : goal.returns-in-Some
returns-in-Some c =
    let line = c.args.line.now in
    let named : option_map (λ x. x.now) c.nth.result ≡ slice_get (words_of line) 8 =
    nth_from_yields_List c.nth.result c.nth.new.self 8 c.nth.ensures.ran
    (YieldsList-from_slice_split _ (λ (b : ℕ). b == 32) line c.split.ensures.rest c.split.ensures.done
    c.split.ensures.closure (λ x r q k. search (rules, tests))) in
    let word : slice_get (words_of line) 8 ≡ Some c.in-Some.word.now =
    sym named ∙ ap (option_map (λ x. x.now)) c.in-Some.is in
    c.message_in.ensures
    ∙ ap (numeral_in message_digits) (sym (get_or_from_slice_get (words_of line) 8 c.in-Some.word.now [] word))

pub returns-in-None : goal.returns-in-None
returns-in-None c =
    let line = c.args.line.now in
    let named : option_map (λ x. x.now) c.nth.result ≡ slice_get (words_of line) 8 =
    nth_from_yields_List c.nth.result c.nth.new.self 8 c.nth.ensures.ran
    (YieldsList-from_slice_split _ (λ (b : ℕ). b == 32) line c.split.ensures.rest c.split.ensures.done
    c.split.ensures.closure (λ x r q k. search (rules, tests))) in
    let none : slice_get (words_of line) 8 ≡ None = sym named ∙ ap (option_map (λ x. x.now)) c.in-None.is in
    sym (ap (numeral_in message_digits) (get_or_past (words_of line) 8 [] (past_end (words_of line) 8 none))
    ∙ no_numeral)
