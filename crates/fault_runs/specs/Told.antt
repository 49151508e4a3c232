-- What a line tells, from what is known of a run.
use Rattle.std.specs.Prelude.{ℕ, List, ◌++◌, codes, decimal}
use Rattle.ttp_base.specs.Text.{newline}
use Rattle.ttp_world.specs.declared.keep.Back.{Back}
use Rattle.ttp_world.specs.declared.keep.Back.TheVariants as back
use Rattle.ttp_world.specs.declared.keep.Keep.{Keep}
use Rattle.ttp_world.specs.declared.keep.Keep.TheVariants as keep
use Rattle.ttp_world.specs.declared.medl.Medl.{Medl}
use Rattle.ttp_world.specs.declared.script.Script.{Script}
use Rattle.campaign.specs.declared.cost.Cost.{Cost}
use Rattle.campaign.specs.Cost.{says_yes}
use Rattle.campaign.specs.CostText.{test_words}
use Rattle.campaign.specs.Lines.{Summary}

-- a script whose run costs this
abbrev pub told_summary : Medl → Script → Cost → Summary
told_summary list script cost =
    record { yes = says_yes list script; test = test_words list script; cost = cost }

-- the lines of the tests, without their line feeds
abbrev pub keep_words : Keep → List ℕ
keep_words (keep.Yes start) = codes "keeps yes start " ++ decimal start
keep_words (keep.No rule slot) = codes "keeps no H" ++ decimal rule ++ codes " " ++ decimal slot

abbrev pub back_words : Back → List ℕ
back_words (back.Yes start) = codes "returns yes start " ++ decimal start
back_words (back.No rule slot) = codes "returns no Q" ++ decimal rule ++ codes " " ++ decimal slot

-- the first line, by its first words and its numbers
abbrev pub head_words : List ℕ → ℕ → ℕ → ℕ → ℕ → List ℕ
head_words name nodes slots first last =
    name ++ decimal nodes ++ codes " slots " ++ decimal slots
    ++ codes " from " ++ decimal first ++ codes " to " ++ decimal last ++ newline

-- what stands behind the place of a run: the words of the test and of the cost, and what follows them
abbrev pub run_words : List ℕ → List ℕ → List ℕ
run_words test words = test ++ codes " " ++ words ++ codes " fault "
