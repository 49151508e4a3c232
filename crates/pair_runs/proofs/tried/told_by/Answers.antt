use Rattle.std.proofs.Common.{◌≡◌, ◌<◌, ◌∙◌, cond, ℕ, [], ap, sym, subst}
use Rattle.ttp_world.specs.declared.script.Script.{Script}
use Rattle.campaign.specs.Lines.{summary, fault_node}
use Rattle.campaign.specs.Tried.{with_fault}
use Rattle.fault_pairs.specs.declared.pair.Harm.{Harm}
use Rattle.fault_pairs.specs.declared.pair.PairClass.{PairClass}
use Rattle.fault_pairs.specs.Classes.{harm_of, has_line, pair_class}
use Rattle.fault_pairs.specs.Pairs.{second_apart}
use Rattle.fault_pairs.specs.PairText.{pair_line, told_by_harms}
use Rattle.pair_runs.specs.Tries.{first_of, shortened}
use Rattle.pair_runs.proofs.Begins.{may-node}
use Rattle.pair_runs.proofs.Harms.{harm-ordered}
use Rattle.pair_runs.proofs.tried.told_by.Goals as goal

pub pair_class-class-requires-clause-ordered : goal.pair_class-class-requires-clause-ordered
pair_class-class-requires-clause-ordered c =
    let list = c.args.setting.now.common.list.now in
    let script = c.args.setting.now.common.script.now in
    let valid = c.requires.may.may.valid in
    record {
      both = harm-ordered list c.args.both.now c.args.harms.now.both valid
          (c.requires.harm ∙ ap harm_of c.requires.cost);
      one = harm-ordered list (with_fault script c.args.setting.now.one.now) c.args.harms.now.one valid
          (c.requires.first ∙ c.requires.may.first);
      two = harm-ordered list (with_fault script c.args.two.now) c.args.harms.now.two valid c.requires.second;
    }

pub line_of-requires-clause-ordered : goal.line_of-requires-clause-ordered
line_of-requires-clause-ordered c =
    let list = c.args.setting.now.common.list.now in
    let script = c.args.setting.now.common.script.now in
    let valid = c.requires.may.may.valid in
    record {
      both = harm-ordered list c.args.both.now c.args.harms.now.both valid
          (c.requires.harm ∙ ap harm_of c.requires.cost);
      one = harm-ordered list (with_fault script c.args.setting.now.one.now) c.args.harms.now.one valid
          (c.requires.first ∙ c.requires.may.first);
      two = harm-ordered list (with_fault script c.args.two.now) c.args.harms.now.two valid c.requires.second;
    }

pub pair_class-class-requires-clause-first : goal.pair_class-class-requires-clause-first
pair_class-class-requires-clause-first c =
    subst (λ (k : ℕ). k < 24) (sym c.fault_node.ensures)
    (may-node c.args.setting.now.common.list.now c.args.setting.now.common.script.now c.args.setting.now.one.now
    c.requires.may.may.valid c.requires.may.one.may)

pub pair_class-class-requires-clause-second : goal.pair_class-class-requires-clause-second
pair_class-class-requires-clause-second c =
    subst (λ (k : ℕ). k < 24) (sym c.fault_node-2.ensures)
    (may-node c.args.setting.now.common.list.now
    c.args.setting.now.common.script.now c.args.two.now c.requires.may.may.valid
    c.requires.two)

pub returns : goal.returns
returns c =
    let setting = c.args.setting.now in
    let list = setting.common.list.now in
    let script = setting.common.script.now in
    let two = c.args.two.now in
    let one = first_of setting in
    let second = second_apart c.args.apart two in
    let both : c.args.both.now ≡ with_fault (with_fault script setting.one.now) two =
    c.requires.both ∙ ap (λ (s : Script). with_fault s two) c.requires.may.more in
    let summed = λ (s : Script). (summary list s) in
    let harm : c.args.harms.now.both ≡ harm_of (summary list c.args.both.now).cost =
    c.requires.harm ∙ ap harm_of c.requires.cost in
    let class : c.pair_class-class.result
    ≡ pair_class (fault_node setting.one.now) (fault_node two) (harm_of (summary list c.args.both.now).cost) setting.first
    c.args.harms.now.two =
    c.pair_class-class.ensures
    ∙ (λ i. pair_class (c.fault_node.ensures i) (c.fault_node-2.ensures i) (harm i)
    (c.requires.first i) c.args.harms.now.two) in
    let line = λ (k : PairClass) (first : Harm).
    pair_line list k one second setting.common.own first c.args.harms.now.two
    (summary list c.args.both.now) in
    (λ i. record {
      yes = c.says_yes.ensures i;
      class = class i;
      line = (c.in_ok-line.ensures ∙ (λ j. cond (has_line (class j)) (line (class j) (c.requires.first j)) [])) i;
    })
    ∙ (λ i. shortened (told_by_harms list one second setting.common.own setting.first (c.requires.second i)
    (summary list (both i))))
