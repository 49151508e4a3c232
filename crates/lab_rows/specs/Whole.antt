-- A campaign as a whole: two nodes of four are on, node 0 starts in slot 8, and node 1 sends in slot 9.
--
-- Among so few the hypothesis has too few clocks to measure, so each line says `no`.
use Rattle.std.specs.Prelude.{pos, [], ◌∷◌, replicate, Some, None, codes}
use Rattle.ttp_base.specs.Text.{Lines}
use Rattle.ttp_world.specs.declared.script.Script.{Script}

-- nodes 0 and 1 of four are on from slot 0, for 11 slots, and no fault happens
abbrev pub two_of_four : Script
two_of_four = record {
  slots = 11;
  on = Some 0 ∷ Some 0 ∷ None ∷ None ∷ [];
  drift = replicate 4 (pos 0);
  events = [];
}

-- the lines of its campaign in slot 9, as worked out by hand
abbrev pub two_lines : Lines
two_lines =
    codes "ttplab campaign 1 nodes 4 slots 11 from 9 to 9\n"
    ∷ codes "slot - node - keeps no H7 8 left - hurt - split - - end 0003 fault -\n"
    ∷ codes "slot 9 node 0 keeps no H6 9 left - hurt - split - - end 0001,0003 fault receive 0 AB silence 9 9\n"
    ∷ codes "slot 9 node 0 keeps no H6 9 left - hurt - split - - end 0001,0003 fault receive 0 AB noise 9 9\n"
    ∷ codes "slot 9 node 0 keeps no H7 8 left - hurt - split - - end 0003 fault receive 0 A silence 9 9\n"
    ∷ codes "slot 9 node 0 keeps no H7 8 left - hurt - split - - end 0003 fault receive 0 A noise 9 9\n"
    ∷ codes "slot 9 node 0 keeps no H7 8 left - hurt - split - - end 0003 fault receive 0 B silence 9 9\n"
    ∷ codes "slot 9 node 0 keeps no H7 8 left - hurt - split - - end 0003 fault receive 0 B noise 9 9\n"
    ∷ codes "slot 9 node 0 keeps no H6 9 left - hurt - split - - end 0001,0003 fault receive 0 AB silence 9 10\n"
    ∷ codes "slot 9 node 0 keeps no H6 9 left - hurt - split - - end 0001,0003 fault receive 0 AB noise 9 10\n"
    ∷ codes "slot 9 node 0 keeps no H7 8 left - hurt - split - - end 0003 fault receive 0 A silence 9 10\n"
    ∷ codes "slot 9 node 0 keeps no H7 8 left - hurt - split - - end 0003 fault receive 0 A noise 9 10\n"
    ∷ codes "slot 9 node 0 keeps no H7 8 left - hurt - split - - end 0003 fault receive 0 B silence 9 10\n"
    ∷ codes "slot 9 node 0 keeps no H7 8 left - hurt - split - - end 0003 fault receive 0 B noise 9 10\n"
    ∷ codes "slot 9 node 0 keeps no H6 9 left - hurt - split - - end 0001,0003 fault jump 0 4 9\n"
    ∷ codes "slot 9 node 0 keeps no H6 9 left - hurt - split - - end 0001,0003 fault jump 0 -4 9\n"
    ∷ codes "slot 9 node 0 keeps no H3 9 left - hurt - split - - end 0003 fault jump 0 1 9\n"
    ∷ codes "slot 9 node 0 keeps no H3 9 left - hurt - split - - end 0003 fault jump 0 -1 9\n"
    ∷ codes "slot 9 node 1 keeps no H6 9 left - hurt - split - - end 0001,0003 fault send 1 AB silence 9 9\n"
    ∷ codes "slot 9 node 1 keeps no H6 9 left - hurt - split - - end 0001,0003 fault send 1 AB noise 9 9\n"
    ∷ codes "slot 9 node 1 keeps no H7 8 left - hurt - split - - end 0003 fault send 1 A silence 9 9\n"
    ∷ codes "slot 9 node 1 keeps no H7 8 left - hurt - split - - end 0003 fault send 1 A noise 9 9\n"
    ∷ codes "slot 9 node 1 keeps no H7 8 left - hurt - split - - end 0003 fault send 1 B silence 9 9\n"
    ∷ codes "slot 9 node 1 keeps no H7 8 left - hurt - split - - end 0003 fault send 1 B noise 9 9\n"
    ∷ codes "slot 9 node 1 keeps no H6 9 left - hurt - split - - end 0001,0003 fault send 1 AB silence 9 10\n"
    ∷ codes "slot 9 node 1 keeps no H6 9 left - hurt - split - - end 0001,0003 fault send 1 AB noise 9 10\n"
    ∷ codes "slot 9 node 1 keeps no H7 8 left - hurt - split - - end 0003 fault send 1 A silence 9 10\n"
    ∷ codes "slot 9 node 1 keeps no H7 8 left - hurt - split - - end 0003 fault send 1 A noise 9 10\n"
    ∷ codes "slot 9 node 1 keeps no H7 8 left - hurt - split - - end 0003 fault send 1 B silence 9 10\n"
    ∷ codes "slot 9 node 1 keeps no H7 8 left - hurt - split - - end 0003 fault send 1 B noise 9 10\n"
    ∷ codes "slot 9 node 1 keeps no H6 9 left - hurt - split - - end 0001,0003 fault jump 1 4 9\n"
    ∷ codes "slot 9 node 1 keeps no H6 9 left - hurt - split - - end 0001,0003 fault jump 1 -4 9\n"
    ∷ codes "slot 9 node 1 keeps no H3 9 left - hurt - split - - end 0003 fault jump 1 1 9\n"
    ∷ codes "slot 9 node 1 keeps no H3 9 left - hurt - split - - end 0003 fault jump 1 -1 9\n"
    ∷ codes "kept 0 same 0 hurt 0 split 0 torn 0 dead 0\n"
    ∷ codes "broken 32 same 20 hurt 0 split 0 torn 12 dead 0\n"
    ∷ []
