use Rattle.std.proofs.Common.{◌≡◌, ℕ, List, [], ◌∷◌, ◌++◌, chars, encode_utf8_all}
use Rattle.std.proofs.Common.{refl, sym, ap, ◌∙◌, append_assoc, append-nil, rules}
use Rattle.std.proofs.Output.{has_written_append, has_written_of_eq}
use Rattle.std.proofs.lemmas.List.{nil_from_length}
use Rattle.std.proofs.lemmas.Str.{chars-nil, chars_past_char, IsUtf8-past_char}
use Rattle.std.specs.Str.Iter.{chars_rest}
use Rattle.told.specs.Shown.{shown_char, text_in_line}
use Rattle.told.proofs.shown.ShownDisplay.fmt.Goals as goal

text_in_line-nil : text_in_line [] ≡ []
unfolding text_in_line
text_in_line-nil = refl

text_in_line-cons : (c : ℕ) (cs : List ℕ) → text_in_line (c ∷ cs) ≡ encode_utf8_all (shown_char c) ++ text_in_line cs
unfolding text_in_line
text_in_line-cons c cs = refl

pub loop-ch-preserved : goal.loop-ch-preserved
loop-ch-preserved g c =
    let step = c.in-Some.ensures.steps.0 in
    let ch = c.in-Some.ch in
    let later = chars (chars_rest c.next.new.self) in (
      IsUtf8-past_char _ _ _ c.loop-ch.invariant.0 step,
      λ plain.
          let now = c.loop-ch.invariant.1 plain in (
            now.0 ++ encode_utf8_all (shown_char ch),
            has_written_append _ _ _ _ _ _ now.1 (search rules),
            append_assoc now.0 _ _ ∙ ap (λ l. now.0 ++ l) (sym (text_in_line-cons ch later))
                ∙ ap (λ l. now.0 ++ text_in_line l) (sym (chars_past_char _ _ _ c.loop-ch.invariant.0 step)) ∙ now.2,
          ),
    )

pub returns-clause-writes : goal.returns-clause-writes
returns-clause-writes g c =
    λ plain _.
    let now = c.loop-ch.invariant.1 plain in
    let none = ap chars (nil_from_length _ c.in_default.ensures.steps.0.0) ∙ chars-nil in
    has_written_of_eq _ _ _ _ _
    (sym (append-nil now.0) ∙ ap (λ l. now.0 ++ l) (sym text_in_line-nil)
    ∙ ap (λ l. now.0 ++ text_in_line l) (sym none) ∙ now.2) now.1
