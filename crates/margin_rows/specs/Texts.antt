-- The texts of the cases.
use Rattle.std.specs.Prelude.{[], ◌∷◌, codes}
use Rattle.ttp_base.specs.Text.{Lines}

-- the drifts of node 1, which sends in the slot after the start
abbrev pub behind_start : Lines
behind_start =
    codes "drift node 1 slot - from -4 to -2 costs others keeps no H1 0 left 1,2,3,4 hurt 2,3,4 split no end 0001\n"
    ∷ codes "drift node 1 slot - from -1 to -1 costs itself keeps no H1 0 left 1 hurt - split no end 001d\n"
    ∷ codes "drift node 1 slot - from 0 to 0 costs nobody keeps yes start 10 left - hurt - split no end 001f\n"
    ∷ codes "drift node 1 slot - from 1 to 1 costs itself keeps no H1 0 left 1 hurt - split no end 001d\n"
    ∷ codes "drift node 1 slot - from 2 to 4 costs others keeps no H1 0 left 1,2,3,4 hurt 2,3,4 split no end 0001\n"
    ∷ codes "margin drift node 1 slot - ranges 5 nobody 1 itself 2 others 6 free 0 0 below -4 -2 above 2 4 most 3\n"
    ∷ []

-- two jumps at the edge of the window
abbrev pub at_the_edge : Lines
at_the_edge =
    codes "jump node 1 slot 21 from 24 to 24 costs nobody keeps no H3 21 left - hurt - split no end 001f\n"
    ∷ codes "jump node 1 slot 21 from 25 to 25 costs others keeps no H3 21 left 3 hurt 3 split yes end 0017\n"
    ∷ codes "margin jump node 1 slot 21 ranges 2 nobody 1 itself 0 others 1 free -1 24 below - - above 25 25 most 1\n"
    ∷ []

-- a jump by less than four windows, and by four
abbrev pub far_jumps : Lines
far_jumps =
    codes "jump node 1 slot 21 from 95 to 95 costs itself keeps no H3 21 left 1 hurt - split no end 001d\n"
    ∷ codes "jump node 1 slot 21 from 96 to 96 costs itself keeps yes start 10 left 1 hurt - split no end 001d\n"
    ∷ codes "margin jump node 1 slot 21 ranges 2 nobody 0 itself 2 others 0 free -1 94 below - - above - - most 0\n"
    ∷ []

-- two jumps of node 0 where node 2 is armed
abbrev pub jumps_where_armed : Lines
jumps_where_armed =
    codes "jump node 0 slot 31 from 2 to 2 costs nobody returns no Q3 31 left 2 hurt - split no end 001f\n"
    ∷ codes "jump node 0 slot 31 from 3 to 3 costs itself returns no Q3 31 left 0,2 hurt - split no end 001e\n"
    ∷ codes "margin jump node 0 slot 31 ranges 2 nobody 1 itself 1 others 0 free -8 2 below - - above - - most 0\n"
    ∷ []

-- the jumps of node 0 where one node comes late
abbrev pub with_a_late_node : Lines
with_a_late_node =
    codes "jump node 0 slot 15 from -4 to -4 costs others keeps no H4 0 left 1 hurt 1 split yes end 0009\n"
    ∷ codes "jump node 0 slot 15 from -3 to -2 costs others keeps no H3 15 left 1 hurt 1 split yes end 0009\n"
    ∷ codes "jump node 0 slot 15 from -1 to 1 costs nobody keeps no H3 15 left - hurt - split no end 000b\n"
    ∷ codes "jump node 0 slot 15 from 2 to 3 costs others keeps no H3 15 left 1 hurt 1 split yes end 0009\n"
    ∷ codes "jump node 0 slot 15 from 4 to 4 costs others keeps no H4 0 left 1 hurt 1 split yes end 0009\n"
    ∷ codes "margin jump node 0 slot 15 ranges 5 nobody 3 itself 0 others 6 free -1 1 below -4 -2 above 2 4 most 1\n"
    ∷ []

-- all drifts of four nodes
abbrev pub four_text : Lines
four_text =
    codes "ttplab margins 1 nodes 4 slots 24 from - to - drift 0 window 1 reach 4\n"
    ∷ codes "slot - node - keeps yes start 8 left - hurt - split - - end 000f fault -\n"
    ∷ codes "drift node 0 slot - from -4 to -1 costs itself keeps no H1 0 left 0 hurt - split no end 000e\n"
    ∷ codes "drift node 0 slot - from 0 to 0 costs nobody keeps yes start 8 left - hurt - split no end 000f\n"
    ∷ codes "drift node 0 slot - from 1 to 4 costs itself keeps no H1 0 left 0 hurt - split no end 000e\n"
    ∷ codes "margin drift node 0 slot - ranges 3 nobody 1 itself 8 others 0 free 0 0 below - - above - - most 0\n"
    ∷ codes "drift node 1 slot - from -4 to -2 costs others keeps no H1 0 left 1,2,3 hurt 2,3 split no end -\n"
    ∷ codes "drift node 1 slot - from -1 to -1 costs itself keeps no H1 0 left 1 hurt - split no end 000d\n"
    ∷ codes "drift node 1 slot - from 0 to 0 costs nobody keeps yes start 8 left - hurt - split no end 000f\n"
    ∷ codes "drift node 1 slot - from 1 to 1 costs itself keeps no H1 0 left 1 hurt - split no end 000d\n"
    ∷ codes "drift node 1 slot - from 2 to 4 costs others keeps no H1 0 left 1,2,3 hurt 2,3 split no end -\n"
    ∷ codes "margin drift node 1 slot - ranges 5 nobody 1 itself 2 others 6 free 0 0 below -4 -2 above 2 4 most 2\n"
    ∷ codes "drift node 2 slot - from -4 to -1 costs itself keeps no H1 0 left 2 hurt - split no end 000b\n"
    ∷ codes "drift node 2 slot - from 0 to 0 costs nobody keeps yes start 8 left - hurt - split no end 000f\n"
    ∷ codes "drift node 2 slot - from 1 to 4 costs itself keeps no H1 0 left 2 hurt - split no end 000b\n"
    ∷ codes "margin drift node 2 slot - ranges 3 nobody 1 itself 8 others 0 free 0 0 below - - above - - most 0\n"
    ∷ codes "drift node 3 slot - from -4 to -1 costs itself keeps no H1 0 left 3 hurt - split no end 0007\n"
    ∷ codes "drift node 3 slot - from 0 to 0 costs nobody keeps yes start 8 left - hurt - split no end 000f\n"
    ∷ codes "drift node 3 slot - from 1 to 4 costs itself keeps no H1 0 left 3 hurt - split no end 0007\n"
    ∷ codes "margin drift node 3 slot - ranges 3 nobody 1 itself 8 others 0 free 0 0 below - - above - - most 0\n"
    ∷ codes "all drift sweeps 4 values 36 nobody 4 itself 26 others 6 free 0 0 least 2 most 2\n"
    ∷ []

-- no jumps
abbrev pub no_text : Lines
no_text =
    codes "ttplab margins 1 nodes 4 slots 24 from 30 to 31 drift 0 window 1 reach 4\n"
    ∷ codes "slot - node - keeps yes start 8 left - hurt - split - - end 000f fault -\n"
    ∷ codes "all jump sweeps 0 values 0 nobody 0 itself 0 others 0 free - - least - most 0\n"
    ∷ []
