-- The lines, as labels and the kinds of their words.
use Rattle.std.specs.Prelude.{ℕ, ◌^◌, ℤ, Bool, true, false, List, [], ◌∷◌, map, length, Option, Some, None, codes}
use Rattle.line_form.specs.Kinds.{Kind, number, signed, hexed, one_of, or_dash, commas}
use Rattle.line_form.specs.Forms.{◌▸◌, LineForm, Values}
use Rattle.ttp_base.specs.NodeSet.{set_bits}
use Rattle.ttp_world.specs.declared.medl.Medl.{Medl}
use Rattle.ttp_world.specs.declared.script.Script.{Script}
use Rattle.ttp_world.specs.Trace.{member_digits}
use Rattle.campaign.specs.declared.cost.Span.{Span}
use Rattle.clock_margins.specs.declared.margin.Between.{Between}
use Rattle.clock_margins.specs.declared.margin.Costs.{Costs}
use Rattle.clock_margins.specs.declared.margin.Costs.TheVariants as costs
use Rattle.clock_margins.specs.declared.margin.Margin.{Margin}
use Rattle.clock_margins.specs.declared.margin.Outcome.{Outcome}
use Rattle.clock_margins.specs.declared.margin.Sweep.{Sweep}
use Rattle.clock_margins.specs.declared.margin.Total.{Total}
use Rattle.clock_margins.specs.Outcomes.{whom_it_costs}
use Rattle.clock_margins.specs.Ranges.{Range}
use Rattle.clock_margins.specs.Sweeps.{reach}

-- Words.

-- drift, or jump where there are slots
abbrev pub clock_words : List (List ℕ)
clock_words = codes "drift" ∷ codes "jump" ∷ []

abbrev pub clock_place : {A : Type 0} → Option A → ℕ
clock_place None = 0
clock_place (Some slots) = 1

abbrev pub costs_words : List (List ℕ)
costs_words = codes "nobody" ∷ codes "itself" ∷ codes "others" ∷ []

abbrev pub costs_place : Costs → ℕ
costs_place costs.Nobody = 0
costs_place costs.Itself = 1
costs_place costs.Others = 2

abbrev pub truth_words : List (List ℕ)
truth_words = codes "no" ∷ codes "yes" ∷ []

abbrev pub truth_place : Bool → ℕ
truth_place false = 0
truth_place true = 1

-- numbers of nodes and of slots, values, and how many values there are
abbrev pub node_kind : Kind
node_kind = number 256

abbrev pub jump_slot_kind : Kind
jump_slot_kind = or_dash (number 100000)

abbrev pub value_kind : Kind
value_kind = signed 10000000

abbrev pub count_kind : Kind
count_kind = number (10 ^ 15)

abbrev pub nodes_kind : Kind
nodes_kind = commas 24 node_kind

-- The first line.

abbrev pub margins_head_form : LineForm
margins_head_form =
    codes "ttplab margins 1 nodes " ▸ node_kind ∷ codes " slots " ▸ number 100000
    ∷ codes " from " ▸ or_dash (number (10 ^ 10)) ∷ codes " to " ▸ or_dash (number (10 ^ 10))
    ∷ codes " drift " ▸ value_kind ∷ codes " window " ▸ value_kind ∷ codes " reach " ▸ number 10000000 ∷ []

abbrev pub first_asked : Option Span → Option ℕ
first_asked None = None
first_asked (Some asked) = Some asked.first

abbrev pub last_asked : Option Span → Option ℕ
last_asked None = None
last_asked (Some asked) = Some asked.last

abbrev pub margins_head_values : Medl → Script → Option Span → Values margins_head_form
margins_head_values list script asked = (
  length list.slots,
  (
    script.slots,
    (
      first_asked asked,
      (
        last_asked asked,
        (list.drift, (list.window, (reach list asked, tt))),
      ),
    ),
  ),
)

-- The line of a range: what stands before the words of its test, and what behind them.

abbrev pub range_form : LineForm
range_form =
    [] ▸ one_of clock_words ∷ codes " node " ▸ node_kind ∷ codes " slot " ▸ jump_slot_kind
    ∷ codes " from " ▸ value_kind ∷ codes " to " ▸ value_kind ∷ codes " costs " ▸ one_of costs_words ∷ []

abbrev pub range_values : Sweep → Range → Values range_form
range_values sweep range = (
  clock_place sweep.slot,
  (
    sweep.node,
    (
      sweep.slot,
      (range.from, (range.to, (costs_place (whom_it_costs sweep.node range.outcome), tt))),
    ),
  ),
)

abbrev pub outcome_form : Medl → LineForm
outcome_form list =
    codes " left " ▸ nodes_kind ∷ codes " hurt " ▸ nodes_kind ∷ codes " split " ▸ one_of truth_words
    ∷ codes " end " ▸ commas 24 (hexed (member_digits list)) ∷ []

abbrev pub outcome_values : (list : Medl) → Outcome → Values (outcome_form list)
outcome_values list outcome =
    (outcome.left, (outcome.hurt, (truth_place outcome.split, (map set_bits outcome.end, tt))))

-- The line of a sweep, and the last one.

abbrev pub margin_form : LineForm
margin_form =
    codes "margin " ▸ one_of clock_words ∷ codes " node " ▸ node_kind ∷ codes " slot " ▸ jump_slot_kind
    ∷ codes " ranges " ▸ count_kind
    ∷ codes " nobody " ▸ count_kind ∷ codes " itself " ▸ count_kind ∷ codes " others " ▸ count_kind
    ∷ codes " free " ▸ or_dash value_kind ∷ codes " " ▸ or_dash value_kind
    ∷ codes " below " ▸ or_dash value_kind ∷ codes " " ▸ or_dash value_kind
    ∷ codes " above " ▸ or_dash value_kind ∷ codes " " ▸ or_dash value_kind
    ∷ codes " most " ▸ node_kind ∷ []

abbrev pub least_in : Option Between → Option ℤ
least_in None = None
least_in (Some b) = Some b.least

abbrev pub greatest_in : Option Between → Option ℤ
greatest_in None = None
greatest_in (Some b) = Some b.greatest

abbrev pub margin_values : Sweep → Margin → Values margin_form
margin_values sweep margin = (
  clock_place sweep.slot,
  (
    sweep.node,
    (
      sweep.slot,
      (
        margin.ranges,
        (
          margin.counts.nobody,
          (
            margin.counts.itself,
            (
              margin.counts.others,
              (
                least_in margin.free,
                (
                  greatest_in margin.free,
                  (
                    least_in margin.below,
                    (
                      greatest_in margin.below,
                      (least_in margin.above, (greatest_in margin.above, (margin.most, tt))),
                    ),
                  ),
                ),
              ),
            ),
          ),
        ),
      ),
    ),
  ),
)

abbrev pub all_form : LineForm
all_form =
    codes "all " ▸ one_of clock_words ∷ codes " sweeps " ▸ count_kind ∷ codes " values " ▸ count_kind
    ∷ codes " nobody " ▸ count_kind ∷ codes " itself " ▸ count_kind ∷ codes " others " ▸ count_kind
    ∷ codes " free " ▸ or_dash value_kind ∷ codes " " ▸ or_dash value_kind
    ∷ codes " least " ▸ or_dash (number 10000000) ∷ codes " most " ▸ node_kind ∷ []

abbrev pub all_values : Option Span → Total → Values all_form
all_values asked total = (
  clock_place asked,
  (
    total.sweeps,
    (
      total.values,
      (
        total.counts.nobody,
        (
          total.counts.itself,
          (
            total.counts.others,
            (least_in total.free, (greatest_in total.free, (total.least, (total.most, tt)))),
          ),
        ),
      ),
    ),
  ),
)
