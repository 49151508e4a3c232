-- Each line of margins is one line: its one line feed is its last byte.
use Rattle.std.proofs.Common.{◌≡◌, ℕ, zero, suc, Bool, true, false, cond, ◌&&◌, not, List, [], ◌∷◌, ◌++◌, map, get_or}
use Rattle.std.proofs.Common.{Option, Some, None, refl, ap, ◌∙◌, codes, arith}
use Rattle.std.specs.Prelude.{flat_map}
use Rattle.std.specs.List.{list_all}
use Rattle.std.proofs.lemmas.Bool.{and_parts}
use Rattle.line_form.specs.Kinds.{Kind, number, signed, hexed, hexed_or, one_of}
use Rattle.line_form.specs.Kinds.{payload, or_dash, commas, named, joined, free}
use Rattle.line_form.specs.Kinds.{Value, spell, each_behind, listed_words}
use Rattle.line_form.specs.Forms.{LineForm, Values, spelled, spelled_line}
use Rattle.lab_top.proofs.FromBelow.{spelled-more, HasNone, none-append, none-decimal}
use Rattle.ttp_base.specs.Text.{newline, is_line}
use Rattle.ttp_base.proofs.Lines.{is_line-append}
use Rattle.ttp_base.proofs.Numerals.{has, has-signed, has-hex}
use Rattle.ttp_world.specs.declared.medl.Medl.{Medl}
use Rattle.ttp_world.specs.declared.script.Script.{Script}
use Rattle.ttp_world.proofs.LineLists.{each-append}
use Rattle.campaign.specs.declared.cost.Span.{Span}
use Rattle.ttp_world.specs.ZerosWorld.{zeros_world}
use Rattle.clock_margins.specs.declared.margin.Sweep.{Sweep}
use Rattle.clock_margins.specs.Forms.{margins_head_form, margins_head_values, range_form}
use Rattle.clock_margins.specs.Forms.{range_values, outcome_form, outcome_values}
use Rattle.clock_margins.specs.Forms.{margin_form, margin_values, all_form, all_values}
use Rattle.clock_margins.specs.MarginText.{tolds_of, range_line, sweep_margin, sweep_lines}
use Rattle.clock_margins.specs.MarginText.{lines_of_sweeps, margin_lines}
use Rattle.clock_margins.specs.Outcomes.{ValueTold, told_of_value}
use Rattle.clock_margins.specs.Ranges.{Range, is_told_as, range_alone, range_before, ranges_of}
use Rattle.clock_margins.specs.Sums.{total_of}
use Rattle.clock_margins.specs.Sweeps.{swept_script, reach, values, sweeps}
use Rattle.commands.specs.Lines.{AreLines}
use Rattle.lab_top.proofs.CampaignLines.{ended, test-none, own-is_line}

-- Forms whose words never have a line feed, whatever their values.

abbrev lacks_feed : List ℕ → Bool
lacks_feed text = not (has 10 text)

abbrev is_plain : Kind → Bool
is_plain (number limit) = true
is_plain (signed limit) = true
is_plain (hexed digits) = true
is_plain (one_of texts) = list_all lacks_feed texts
is_plain (or_dash k) = is_plain k
is_plain (commas most k) = is_plain k
is_plain _ = false

abbrev is_plain_form : LineForm → Bool
is_plain_form [] = true
is_plain_form (f ∷ form) = is_plain f.kind && (lacks_feed f.label && is_plain_form form)

lacks-none : (text : List ℕ) → lacks_feed text ≡ true → HasNone text
lacks-none text is = go (has 10 text) is
  where
    go : (b : Bool) → not b ≡ true → b ≡ false
    go true is = absurd (cc)
    go false is = refl

one-none : (texts : List (List ℕ)) (i : ℕ) → list_all lacks_feed texts ≡ true → HasNone (get_or texts i [])
one-none [] i is = refl
one-none (text ∷ texts) zero is = lacks-none text (and_parts (lacks_feed text) (list_all lacks_feed texts) is).0
one-none (text ∷ texts) (suc i) is = one-none texts i (and_parts (lacks_feed text) (list_all lacks_feed texts) is).1

behind-none : {X : Type 0} (word : X → List ℕ) → ((x : X) → HasNone (word x)) → (xs : List X)
    → HasNone (each_behind 44 (map word xs))
behind-none word each [] = refl
behind-none word each (x ∷ xs) =
    none-append (word x) (each_behind 44 (map word xs)) (each x) (behind-none word each xs)

commas-none : {X : Type 0} (word : X → List ℕ) → ((x : X) → HasNone (word x)) → (xs : List X)
    → HasNone (listed_words (map word xs))
commas-none word each [] = refl
commas-none word each (x ∷ xs) =
    none-append (word x) (each_behind 44 (map word xs)) (each x) (behind-none word each xs)

kind-none : (k : Kind) (v : Value k) → is_plain k ≡ true → HasNone (spell k v)
kind-none (number limit) n is = none-decimal n
kind-none (signed limit) z is = has-signed 10 z (omega arith)
kind-none (hexed digits) v is = has-hex 10 digits v (omega arith)
kind-none (hexed_or few many) v is = absurd (cc)
kind-none (one_of texts) i is = one-none texts i is
kind-none (payload most) bytes is = absurd (cc)
kind-none (or_dash k) None is = refl
kind-none (or_dash k) (Some v) is = kind-none k v is
kind-none (commas most k) vs is = commas-none (spell k) (λ v. kind-none k v is) vs
kind-none (named texts prefix k) v is = absurd (cc)
kind-none (joined k b l) v is = absurd (cc)
kind-none (free most) text is = absurd (cc)

form-none : (form : LineForm) (vs : Values form) → is_plain_form form ≡ true → HasNone (spelled form vs)
form-none [] vs is = refl
form-none (f ∷ form) (v, vs) is =
    let kind = and_parts (is_plain f.kind) (lacks_feed f.label && is_plain_form form) is in
    let label = and_parts (lacks_feed f.label) (is_plain_form form) kind.1 in
    none-append f.label _ (lacks-none f.label label.0)
    (none-append (spell f.kind v) (spelled form vs) (kind-none f.kind v kind.0) (form-none form vs label.1))

form-line : (form : LineForm) (vs : Values form) → is_plain_form form ≡ true → is_line (spelled_line form vs) ≡ true
form-line form vs is = ap is_line (spelled-more newline form vs) ∙ ended (spelled form vs) (form-none form vs is)

-- The lines of ranges: their tests are those of values.

abbrev AreTested : List Range → Type 0
AreTested [] = Unit {0}
AreTested (range ∷ ranges) = HasNone range.test × AreTested ranges

before-tested : (t : ValueTold) (ranges : List Range) → HasNone t.test
    → AreTested ranges → AreTested (range_before t ranges)
before-tested t [] none are = (none, tt)
before-tested t (r ∷ ranges) none are = by (is_told_as t r)
  where
    by : (b : Bool) → AreTested (cond b (record r { from = t.value } ∷ ranges) (range_alone t ∷ r ∷ ranges))
    by true = are
    by false = (none, are)

ranges-tested : (list : Medl) (script : Script) (sweep : Sweep) (zs : List _)
    → AreTested (ranges_of (map (told_of_value list script sweep) zs))
ranges-tested list script sweep [] = tt
ranges-tested list script sweep (z ∷ zs) =
    before-tested (told_of_value list script sweep z) (ranges_of (map (told_of_value list script sweep) zs))
    (test-none list (swept_script script sweep z)) (ranges-tested list script sweep zs)

range-by : (before test left : List ℕ) → HasNone before → HasNone test → is_line left ≡ true
    → is_line (before ++ codes " " ++ test ++ left) ≡ true
range-by before test left p q is =
    is_line-append (before ++ codes " " ++ test) left
    (none-append (before ++ codes " ") test (none-append before (codes " ") p refl) q) is

range-is_line : (list : Medl) (sweep : Sweep) (range : Range) → HasNone range.test
    → is_line (range_line list sweep range) ≡ true
range-is_line list sweep range none =
    range-by (spelled range_form (range_values sweep range)) range.test
    (spelled_line (outcome_form list) (outcome_values list range.outcome))
    (form-none range_form (range_values sweep range) refl) none
    (form-line (outcome_form list) (outcome_values list range.outcome) refl)

ranges-each : (list : Medl) (sweep : Sweep) (ranges : List Range) → AreTested ranges
    → AreLines (map (range_line list sweep) ranges)
ranges-each list sweep [] are = tt
ranges-each list sweep (range ∷ ranges) are =
    (range-is_line list sweep range are.0, ranges-each list sweep ranges are.1)

-- The lines of sweeps, and the whole.

sweep-each : (list : Medl) (script : Script) (far : ℕ) (sweep : Sweep) → AreLines (sweep_lines list script far sweep)
sweep-each list script far sweep =
    each-append (λ (line : List ℕ). is_line line ≡ true)
    (map (range_line list sweep) (ranges_of (tolds_of list script far sweep))) _
    (ranges-each list sweep (ranges_of (tolds_of list script far sweep)) (ranges-tested list script sweep (values far)))
    (form-line margin_form (margin_values sweep (sweep_margin list script far sweep)) refl, tt)

sweeps-each : (list : Medl) (script : Script) (far : ℕ) (swept : List Sweep)
    → AreLines (flat_map (sweep_lines list script far) swept)
sweeps-each list script far [] = tt
sweeps-each list script far (sweep ∷ swept) =
    each-append (λ (line : List ℕ). is_line line ≡ true) (sweep_lines list script far sweep) _
    (sweep-each list script far sweep) (sweeps-each list script far swept)

with-each : (list : Medl) (script : Script) (asked : Option Span) (swept : List Sweep)
    → AreLines (lines_of_sweeps list script asked swept)
with-each list script asked swept = (
  form-line margins_head_form (margins_head_values list script asked) refl,
  (
    own-is_line list script,
    each-append (λ (line : List ℕ). is_line line ≡ true) (flat_map (sweep_lines list script (reach list asked)) swept) _
        (sweeps-each list script (reach list asked) swept) (
          form-line all_form (all_values asked
              (total_of (map (sweep_margin list script (reach list asked)) swept))) refl,
          tt,
        ),
  ),
)

pub margin_lines-each : (list : Medl) (script : Script) (asked : Option Span)
    → AreLines (margin_lines list script asked)
margin_lines-each list script asked =
    with-each list script asked (sweeps list script (zeros_world list script script.slots) asked)
