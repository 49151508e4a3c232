-- The promise of `pairs` in its own words, from the promise of every form.
use Rattle.std.proofs.Common.{ℕ, List, refl, ap, ◌∙◌}
use Rattle.ttp_base.specs.Text.{Lines}
use Rattle.ttp_world.specs.declared.medl.Medl.{Medl}
use Rattle.ttp_world.specs.declared.script.Script.{Script}
use Rattle.campaign.specs.Tried.{slots_between}
use Rattle.ttp_world.specs.ZerosWorld.{zeros_world}
use Rattle.fault_pairs.specs.Pairs.{firsts_in}
use Rattle.fault_pairs.specs.PairText.{first_fault_lines, pairs_lines}
use Rattle.fault_pairs.specs.Sums.{PairTold, pair_counts}
use Rattle.pair_laws.specs.Ranges.{own_harm, firsts_of_range, pairs_of_first, pairs_of_range}
use Rattle.lab_top.proofs.FromBelow.{classes-counted, counts-append, counts-flat, counts-parted, counts-by_distance}
use Rattle.lab_top.proofs.FromBelow.{faults-same, pairs-near, each-cut, pair-unharmed, none-divided, pairs-mild}
use Rattle.commands.specs.Plan.{Outside}
use Rattle.commands.specs.Promise.{Promise}
use Rattle.lab_top.specs.Forms.{lines_plan}
use Rattle.lab_top.specs.LinesPromise.{WroteAll}
use Rattle.lab_top.specs.PairPromise.{WrotePairs, PairPromise}
use Rattle.lab_top.specs.Texts.{LabAnswer, ttplab}
use Rattle.lab_top.proofs.LinesPromises.{lines_promise}

abbrev lines_of : ℕ → ℕ → ℕ → Medl → Script → Lines
lines_of first last within medl right = pairs_lines medl right first last within

wrote_worth : (list script : List ℕ) (first last within : ℕ) (before now : Outside)
    → WroteAll (lines_of first last within) list script before now → WrotePairs list script first last within before now
wrote_worth list script first last within before now all =
    let medl = all.medl in
    let right = all.right in
    let files = all.files in
    let tolds = pairs_of_range medl right first last within in
    record {
      medl = medl;
      right = right;
      files = files;
      wrote = all.wrote;
      read = record { yes = λ one two. refl; line = λ one two. refl; first = λ one. refl };
      sums = record {
        classes = λ some. classes-counted some;
        firsts = counts-flat (pairs_of_first medl right within) (firsts_of_range medl right first last);
        apart = counts-by_distance right within tolds (pairs-near medl right first last within);
        tests = counts-parted (λ (told : PairTold). told.yes) tolds;
      };
      firsts = faults-same medl right (zeros_world medl right right.slots) (slots_between right first last);
      worth = λ room.
          let unharmed = pair-unharmed medl right files.valid files.valid_script room in
          record {
            hurt = λ one two may also says. (unharmed one two may also says).hurt;
            split = λ one two may also says. (unharmed one two may also says).split;
            divided = none-divided tolds (pairs-mild medl right files.valid files.valid_script room first last within);
          };
    }

pub pair_promise : (list script : List ℕ) (first last within : ℕ) (before now : Outside) (answer : LabAnswer)
    → Promise ttplab (lines_plan (λ medl right. pairs_lines medl right first last within) list script) before now answer
    → PairPromise list script first last within before now answer.status
pair_promise list script first last within before now answer call =
    let text = lines_promise (lines_of first last within)
    (λ medl right. record { next = _; rest = _; begins = refl }) list
    script before now answer call in
    record {
      text = text;
      worth = λ zero. wrote_worth list script first last within before now (text.shown zero);
      pieces = λ middle order more medl right.
          let firsts = firsts_in medl right (zeros_world medl right right.slots) in
          record {
            lines =
                each-cut (first_fault_lines medl right within (own_harm medl right))
                firsts right first middle last order more;
            counts =
                counts-append (pairs_of_range medl right first middle within) _
                ∙ ap pair_counts (each-cut (pairs_of_first medl right within)
                firsts right first middle last order more);
          };
    }
