-- The promise of `margins` in its own words, from the promise of every form.
use Rattle.std.proofs.Common.{◌≡◌, ℕ, ◌+◌, ◌<◌, ◌≤◌, ℤ, List, [], ◌∷◌, ◌++◌, map, length}
use Rattle.std.proofs.Common.{Option, Some, None, refl, ap, sym, subst, ◌∙◌, arith}
use Rattle.std.specs.Prelude.{flat_map, IfSome}
use Rattle.ttp_base.specs.Text.{Lines}
use Rattle.ttp_world.specs.declared.medl.Medl.{Medl}
use Rattle.ttp_world.specs.declared.script.Event.TheVariants as event
use Rattle.ttp_world.specs.declared.script.Script.{Script}
use Rattle.ttp_world.specs.declared.script.TheConstants.{EVENT_LIMIT}
use Rattle.ttp_world.specs.Events.{IsWithinSpan}
use Rattle.ttp_world.specs.Medl.{IsValid}
use Rattle.ttp_world.specs.Script.{IsValidScript}
use Rattle.ttp_world.proofs.WeightBounds.{within-wider}
use Rattle.campaign.specs.declared.cost.Span.{Span}
use Rattle.ttp_world.specs.ZerosWorld.{zeros_world}
use Rattle.clock_margins.specs.declared.margin.Margin.{Margin}
use Rattle.clock_margins.specs.declared.margin.Sweep.{Sweep}
use Rattle.clock_margins.specs.Forms.{clock_place}
use Rattle.clock_margins.specs.MarginText.{tolds_of, sweep_lines, sweep_margin, margin_lines}
use Rattle.clock_margins.specs.Sums.{total_of}
use Rattle.clock_margins.specs.Sweeps.{with_clock_value, swept_script, reach, value_limit, jump_sweep, jumpers}
use Rattle.lab_top.proofs.FromBelow.{with_fault-valid, each-cut, sweep-counted, together, sweep-spread, apart-all}
use Rattle.lab_top.proofs.FromBelow.{drift-valid, never-split, yes-harmless}
use Rattle.commands.specs.Plan.{Outside}
use Rattle.commands.specs.Promise.{Promise}
use Rattle.lab_top.specs.Forms.{lines_plan}
use Rattle.lab_top.specs.LinesPromise.{WroteAll}
use Rattle.lab_top.specs.MarginPromise.{asked_sweeps, AreWorth, AreInPieces, WroteMargins, MarginPromise}
use Rattle.lab_top.specs.Texts.{LabAnswer, ttplab}
use Rattle.lab_top.proofs.LinesPromises.{lines_promise}
use Rattle.lab_top.proofs.Room.{script_of-room}

abbrev lines_of : Option Span → Medl → Script → Lines
lines_of asked medl right = margin_lines medl right asked

-- What the lines are worth.

reach-few : (list : Medl) (asked : Option Span) → reach list asked ≤ value_limit asked
reach-few list asked = omega arith

-- the script of a value is valid
swept-valid : (list : Medl) (script : Script) (asked : Option Span) (node : ℕ) (slot : Option ℕ) (value : ℤ)
    → IsValidScript list script → length script.events < EVENT_LIMIT → node < length list.slots
    → IfSome slot (λ (s : ℕ). s < script.slots) → clock_place slot ≡ clock_place asked
    → IsWithinSpan (value_limit asked) value → IsValidScript list (with_clock_value script node slot value)
swept-valid list script None node None value valid room has inside kind within =
    drift-valid list script node value valid within
swept-valid list script (Some asked) node (Some slot) value valid room has inside kind within =
    with_fault-valid list script (event.Jump node value slot) valid
    (record { valid = (has, within, inside); unhosted = refl }) room
swept-valid list script None node (Some slot) value valid room has inside kind within = absurd (omega (arith, kind))
swept-valid list script (Some asked) node None value valid room has inside kind within = absurd (omega (arith, kind))

worth : (list : Medl) (script : Script) (asked : Option Span) → IsValid list → IsValidScript list script
    → length script.events < EVENT_LIMIT → AreWorth list script asked
worth list script asked valid right room = record {
  read = λ sweep value.
      let more = swept_script script sweep value in
      record {
        test = refl;
        left = refl;
        hurt = refl;
        split = λ none. never-split list more sweep.node (zeros_world list more more.slots) none;
        end = refl;
      };
  once = λ sweep. sweep-spread list script (reach list asked) sweep;
  apart = λ sweep. apart-all (tolds_of list script (reach list asked) sweep);
  counts = λ sweep. sweep-counted list script (reach list asked) sweep;
  yes = λ sweep value is within says.
      let more = swept_script script sweep value in
      let stays = swept-valid list script asked sweep.node sweep.slot value right room is.node is.slot is.kind
      (within-wider (reach list asked) (value_limit asked) value (reach-few list asked) within) in
      let harmless = yes-harmless list more sweep.node valid stays says in
      record { hurt = harmless.0; split = harmless.1; costs = harmless.2 };
}

-- Pieces.

-- each told alone
singly : {X Y : Type 0} (f : X → Y) (xs : List X) → flat_map (λ x. f x ∷ []) xs ≡ map f xs
singly f [] = refl
singly f (x ∷ xs) = ap (λ ys. f x ∷ ys) (singly f xs)

in-pieces : (list : Medl) (script : Script) (first last end : ℕ) → first ≤ last → last ≤ end
    → AreInPieces list script (record { first = first; last = last }) (record { first = last + 1; last = end })
    (Some (record { first = first; last = end }))
in-pieces list script first last end order more =
    let whole = Some (record { first = first; last = end }) in
    let far = reach list whole in
    let front = asked_sweeps list script (Some (record { first = first; last = last })) in
    let back = asked_sweeps list script (Some (record { first = last + 1; last = end })) in
    let jumps : ℕ → List Sweep =
    λ slot. map (jump_sweep slot) (jumpers list (zeros_world list script script.slots) slot) in
    let margin : Sweep → Margin = sweep_margin list script far in
    let margins : map margin front ++ map margin back ≡ map margin (asked_sweeps list script whole) =
    (λ i. sym (singly margin front) i ++ sym (singly margin back) i)
    ∙ each-cut (λ sweep. margin sweep ∷ []) jumps script first last end order more
    ∙ singly margin (asked_sweeps list script whole) in
    record {
      lines = each-cut (sweep_lines list script far) jumps script first last end order more;
      sums =
          sym (together (map margin front) (map margin back))
          ∙ ap (λ (all : List Margin). total_of all) margins;
    }

-- The promise.

wrote_worth : (list script : List ℕ) (asked : Option Span) (before now : Outside)
    → WroteAll (lines_of asked) list script before now → WroteMargins list script asked before now
wrote_worth list script asked before now all =
    let files = all.files in
    record {
      medl = all.medl;
      right = all.right;
      files = files;
      wrote = all.wrote;
      worth =
          worth all.medl all.right asked files.valid files.valid_script
          (script_of-room all.medl files.script_bytes all.right files.valid files.are.script_size files.are.script);
    }

pub margin_promise : (list script : List ℕ) (asked : Option Span) (before now : Outside) (answer : LabAnswer)
    → Promise ttplab (lines_plan (λ medl right. margin_lines medl right asked) list script) before now answer
    → MarginPromise list script asked before now answer.status
margin_promise list script asked before now answer call =
    let text = lines_promise (lines_of asked)
    (λ medl right. record { next = _; rest = _; begins = refl }) list script before now
    answer call in
    record {
      text = text;
      worth = λ zero. wrote_worth list script asked before now (text.shown zero);
      pieces = λ first last end is order more medl right.
          subst
          (AreInPieces medl right (record { first = first; last = last }) (record { first = last + 1; last = end }))
          (sym is) (in-pieces medl right first last end order more);
    }
