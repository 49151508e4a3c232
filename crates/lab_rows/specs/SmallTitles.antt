-- The titles of the picture of the small trace, and the lines of its text, without their line feeds.
use Rattle.std.specs.Prelude.{[], ◌∷◌, ◌++◌, codes}
use Rattle.ttp_base.specs.Text.{Lines}

-- the titles: the first line, those of the cells of each slot, and those of the marks
abbrev pub titles_before : Lines
titles_before =
    codes "ttpbench trace 1 nodes 4 rounds 1 slots 3 schedule 000000"
    ∷ codes "slot 0 node 0 send peer 0 msg 4 mem 0007 acc 2 rej 0 ack first clock 5"
    ∷ codes "slot 0 node 1 correct peer 0 msg 4 mem 0007 acc 3 rej 0 ack none clock -3"
    ∷ codes "slot 0 node 2 correct peer 0 msg - mem 0006 acc 3 rej 1 ack none clock 0"
    ∷ codes "slot 0 node 3 off peer - msg - mem 0000 acc 0 rej 0 ack none clock 0"
    ∷ codes "slot 0 members 0007 of 0 1 0006 of 2"
    ∷ codes "slot 0 clocks apart 8"
    ∷ codes "slot 0 clock apart from most node 0"
    ∷ []

abbrev pub titles_slot_1 : Lines
titles_slot_1 =
    codes "slot 1 node 0 tentative peer 1 msg - mem 0007 acc 2 rej 0 ack doubt:1 clock 5"
    ∷ codes "slot 1 node 1 send peer 1 msg - mem 0007 acc 1 rej 0 ack first clock -3"
    ∷ codes "slot 1 node 2 clique peer 1 msg - mem 0000 acc 0 rej 0 ack none clock 0"
    ∷ codes "slot 1 node 3 wait peer - msg - mem 0000 acc 0 rej 0 ack none clock 0"
    ∷ codes "slot 1 members 0007 of 1"
    ∷ codes "slot 1 clocks apart 8"
    ∷ codes "slot 1 clock apart from most -"
    ∷ []

abbrev pub titles_slot_2 : Lines
titles_slot_2 =
    codes "slot 2 node 0 denied peer 2 msg - mem 0000 acc 0 rej 0 ack none clock 5"
    ∷ codes "slot 2 node 1 null peer 2 msg - mem 0003 acc 1 rej 0 ack first clock -3"
    ∷ codes "slot 2 node 2 gone peer - msg - mem 0000 acc 0 rej 0 ack none clock 0"
    ∷ codes "slot 2 node 3 wait peer - msg - mem 0000 acc 0 rej 0 ack none clock 0"
    ∷ codes "slot 2 members 0003 of 1"
    ∷ codes "slot 2 clocks apart 0"
    ∷ codes "slot 2 clock apart from most -"
    ∷ []

abbrev pub titles_hosts : Lines
titles_hosts =
    codes "slot 0 host 0 write 5"
    ∷ codes "slot 0 host 0 write 6"
    ∷ codes "slot 0 host 1 read 0 3 0a"
    ∷ codes "slot 0 host 1 read 0 4 0a0b"
    ∷ codes "slot 1 host 1 read 0 4 0c"
    ∷ []

-- those of the legend
abbrev pub titles_legend : Lines
titles_legend =
    codes "off"
    ∷ codes "wait"
    ∷ codes "retry"
    ∷ codes "gone"
    ∷ codes "start"
    ∷ codes "join"
    ∷ codes "send"
    ∷ codes "correct"
    ∷ codes "tentative"
    ∷ codes "incorrect"
    ∷ codes "invalid"
    ∷ codes "null"
    ∷ codes "denied"
    ∷ codes "unacknowledged"
    ∷ codes "clique"
    ∷ codes "members: how many all nodes hold"
    ∷ codes "members: nodes hold different ones"
    ∷ codes "clocks: microticks between them"
    ∷ codes "12k: 12000 to 12999, 1M+: 1000000 up"
    ∷ codes "apart: its clock is far from most"
    ∷ codes "a message was sent or delivered"
    ∷ codes "holds other members than most"
    ∷ codes "in doubt about its own frame"
    ∷ codes "few took the frame of this sender"
    ∷ codes "its host writes a message"
    ∷ codes "its host reads a node's message"
    ∷ codes "its host reads its status"
    ∷ []

-- all of them
abbrev pub small_titles : Lines
small_titles = titles_before ++ titles_slot_1 ++ titles_slot_2 ++ titles_hosts ++ titles_legend

-- the lines of slot 0 in the text of the trace, and all its lines
abbrev pub lines_slot_0 : Lines
lines_slot_0 =
    codes "slot 0 node 0 send peer 0 msg 4 mem 0007 acc 2 rej 0 ack first clock 5"
    ∷ codes "slot 0 node 1 correct peer 0 msg 4 mem 0007 acc 3 rej 0 ack none clock -3"
    ∷ codes "slot 0 node 2 correct peer 0 msg - mem 0006 acc 3 rej 1 ack none clock 0"
    ∷ codes "slot 0 node 3 off peer - msg - mem 0000 acc 0 rej 0 ack none clock 0"
    ∷ codes "slot 0 host 0 write 5"
    ∷ codes "slot 0 host 0 write 6"
    ∷ codes "slot 0 host 1 read 0 3 0a"
    ∷ codes "slot 0 host 1 read 0 4 0a0b"
    ∷ []

abbrev pub small_lines : Lines
small_lines =
    codes "ttpbench trace 1 nodes 4 rounds 1 slots 3 schedule 000000"
    ∷ (lines_slot_0
    ++ codes "slot 1 node 0 tentative peer 1 msg - mem 0007 acc 2 rej 0 ack doubt:1 clock 5"
    ∷ codes "slot 1 node 1 send peer 1 msg - mem 0007 acc 1 rej 0 ack first clock -3"
    ∷ codes "slot 1 node 2 clique peer 1 msg - mem 0000 acc 0 rej 0 ack none clock 0"
    ∷ codes "slot 1 node 3 wait peer - msg - mem 0000 acc 0 rej 0 ack none clock 0"
    ∷ codes "slot 1 host 1 read 0 4 0c"
    ∷ codes "slot 2 node 0 denied peer 2 msg - mem 0000 acc 0 rej 0 ack none clock 5"
    ∷ codes "slot 2 node 1 null peer 2 msg - mem 0003 acc 1 rej 0 ack first clock -3"
    ∷ codes "slot 2 node 2 gone peer - msg - mem 0000 acc 0 rej 0 ack none clock 0"
    ∷ codes "slot 2 node 3 wait peer - msg - mem 0000 acc 0 rej 0 ack none clock 0"
    ∷ codes "keeps no H5 1"
    ∷ codes "returns no Q8 2"
    ∷ [])
