-- What `ttplab --help` and `ttplab --version` write.
use Rattle.std.specs.Prelude.{ℕ, List, [], ◌∷◌, codes}
use Rattle.ttp_base.specs.Text.{Lines}

-- what the program is for, a line for each form with what it writes, and where the pages are
abbrev pub help_lines : Lines
help_lines =
    codes "ttplab 1.0.0: pictures of traces, and campaigns of single faults, of clusters of TTP/C controllers\n"
    ∷ codes "\n"
    ∷ codes "wave TRACE                           a waveform of the trace, for a viewer of VCD files\n"
    ∷ codes "picture TRACE [FIRST LAST]           a picture of the trace, or of these slots of it, as SVG\n"
    ∷ codes "campaign LIST SCRIPT FIRST LAST      what each single fault in these slots costs, a line for each\n"
    ∷ codes "chart CAMPAIGN [FIRST LAST]          a picture of a campaign, or of these slots of it, as SVG\n"
    ∷ codes "check LIST [SCRIPT]                  each mistake in both files, with its place and the way out\n"
    ∷ codes "why LIST SCRIPT NODE [SLOT]          why the node left, or why this entry of it is what it is, line by line\n"
    ∷ codes "frames LIST SCRIPT TRACE             each frame on the bus in the run of a trace, byte by byte\n"
    ∷ codes "margins LIST SCRIPT [FIRST LAST]     from which drift on, or jump in these slots, a clock costs others\n"
    ∷ codes "pairs LIST SCRIPT FIRST LAST WITHIN  what every two faults cost more than each alone, those that cost others by name\n"
    ∷ codes "script LIST SLOTS NUMBER             the script that ttpbench sample runs, as a text\n"
    ∷ codes "\n"
    ∷ codes "docs/FIRST.md is the page to begin with; docs/VIEWS.md, docs/CAMPAIGNS.md, docs/CHARTS.md, docs/FRAMES.md, docs/CHECK.md, docs/WHY.md, docs/MARGINS.md and docs/PAIRS.md have the forms.\n"
    ∷ []

-- the program's version, and that of the kit by which it was proved
abbrev pub version_line : List ℕ
version_line = codes "ttplab 1.0.0 (rattle-kit-13f logic dac8208d650f15bf)\n"
