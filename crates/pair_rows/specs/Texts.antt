-- The texts of the cases.
use Rattle.std.specs.Prelude.{ℕ, List, [], ◌∷◌, ◌++◌, codes}
use Rattle.ttp_base.specs.Text.{Lines}

-- a node leaves that had no fault
abbrev pub third_where_deaf : List ℕ
third_where_deaf =
    codes "pair third slot 22 apart 0 nodes 0 2 alone 1 3 third 1 keeps no H5 22 left 1:26:clique,2:24:denied "
    ++ codes "hurt 1,2 split 22 25 end 0019 fault receive 0 AB silence 22 22 and send 2 B silence 22 22\n"

-- two jumps while a node returns
abbrev pub third_where_armed : List ℕ
third_where_armed =
    codes "pair third slot 32 apart 0 nodes 0 3 alone 1 1 third 1,4 returns no Q6 32 left "
    ++ codes "1:36:clique,2:37:clique,4:39:unacknowledged hurt 1,4 split - - end 0009 fault jump 0 8 32 and jump "
    ++ codes "3 8 32\n"

-- one of four has left before
abbrev pub third_of_three : List ℕ
third_of_three =
    codes "pair third slot 18 apart 0 nodes 0 1 alone 1 1 third 2 keeps no H6 11 left 2:21:denied,3:13:denied "
    ++ codes "hurt - split - - end 0003 fault receive 0 AB silence 18 18 and receive 1 AB silence 18 18\n"

-- two memberships are left
abbrev pub torn_apart : List ℕ
torn_apart =
    codes "pair torn slot 16 apart 1 nodes 0 2 alone 0 0 third - keeps no H7 20 left - hurt - split - - end "
    ++ codes "000b,0004 fault send 0 A silence 16 25 and receive 2 B silence 17 25\n"

-- none is
abbrev pub all_dead : List ℕ
all_dead =
    codes "pair dead slot 16 apart 0 nodes 0 1 alone 1 1 third 2,3 keeps no H6 16 left "
    ++ codes "0:20:unacknowledged,1:21:unacknowledged,2:18:clique,3:19:unacknowledged hurt 2,3 split - - end - "
    ++ codes "fault send 0 AB noise 16 16 and jump 1 4 16\n"

-- one slot of a node that is alone, up to the end of the script
abbrev pub lone_text : Lines
lone_text =
    codes "ttplab pairs 1 nodes 4 slots 12 from 10 to 10 within 3\n"
    ∷ codes "slot - node - keeps no H7 8 left - hurt - split - - end 0001 fault -\n"
    ∷ (codes "slot 10 node 0 keeps no H6 10 left - hurt - split - - end 0001 pairs 7 sum 7 less 0 own 0 divided 0 "
    ++ codes "third 0 torn 0 dead 0 fault jump 0 4 10\n")
    ∷ (codes "slot 10 node 0 keeps no H6 10 left - hurt - split - - end 0001 pairs 6 sum 6 less 0 own 0 divided 0 "
    ++ codes "third 0 torn 0 dead 0 fault jump 0 -4 10\n")
    ∷ (codes "slot 10 node 0 keeps no H3 10 left - hurt - split - - end 0001 pairs 5 sum 5 less 0 own 0 divided 0 "
    ++ codes "third 0 torn 0 dead 0 fault jump 0 1 10\n")
    ∷ (codes "slot 10 node 0 keeps no H3 10 left - hurt - split - - end 0001 pairs 4 sum 4 less 0 own 0 divided 0 "
    ++ codes "third 0 torn 0 dead 0 fault jump 0 -1 10\n")
    ∷ codes "apart 0 pairs 6 sum 6 less 0 own 0 divided 0 third 0 torn 0 dead 0\n"
    ∷ codes "apart 1 pairs 16 sum 16 less 0 own 0 divided 0 third 0 torn 0 dead 0\n"
    ∷ codes "kept pairs 0 sum 0 less 0 own 0 divided 0 third 0 torn 0 dead 0\n"
    ∷ codes "broken pairs 22 sum 22 less 0 own 0 divided 0 third 0 torn 0 dead 0\n"
    ∷ []
