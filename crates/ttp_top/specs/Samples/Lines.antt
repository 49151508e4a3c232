-- The four lines on a generated run.
use Rattle.std.specs.Prelude.{ℕ, List, [], ◌∷◌, ◌++◌, codes, decimal}
use Rattle.ttp_base.specs.NodeSet.{set_bits}
use Rattle.ttp_base.specs.Text.{Lines, newline, hex}
use Rattle.ttp_world.specs.declared.medl.Medl.{Medl}
use Rattle.ttp_world.specs.declared.script.Script.{Script}
use Rattle.ttp_world.specs.Hypothesis.{keeps}
use Rattle.ttp_world.specs.Trace.{member_digits, keep_line}
use Rattle.ttp_world.specs.World.{Numbers, world}
use Rattle.script_gen.specs.Generator.{generated}
use Rattle.ttp_top.specs.declared.totals.Totals.{Totals}
use Rattle.ttp_top.specs.Samples.Totals.{totals_of}

-- what was asked for
abbrev pub asked_line : ℕ → ℕ → List ℕ
asked_line slots number = codes "sample slots " ++ decimal slots ++ codes " number " ++ decimal number ++ newline

-- how many frames were sent, how many nodes left, and the members of the lowest active node after the last slot
abbrev pub sent_line : Medl → Totals → List ℕ
sent_line list totals =
    codes "sent " ++ decimal totals.sent ++ codes " left " ++ decimal totals.left
    ++ codes " members " ++ hex (member_digits list) (set_bits totals.members) ++ newline

-- how many messages hosts wrote and read
abbrev pub hosts_line : Totals → List ℕ
hosts_line totals = codes "writes " ++ decimal totals.writes ++ codes " reads " ++ decimal totals.reads ++ newline

-- with the line of the hypothesis test
abbrev pub summary_lines : Medl → Script → ℕ → ℕ → Totals → Lines
summary_lines list script slots number totals =
    asked_line slots number ∷ sent_line list totals ∷ hosts_line totals ∷ keep_line (keeps list script) ∷ []

-- of the world's run for these message numbers, by the script that a number gives
abbrev pub sample_lines : Medl → ℕ → ℕ → Numbers → Lines
sample_lines list slots number numbers =
    let script = generated list slots number in
    summary_lines list script slots number (totals_of list script (world list script numbers))
