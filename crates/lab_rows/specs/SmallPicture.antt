-- The picture of the trace, line by line, without the line feeds.
use Rattle.std.specs.Prelude.{[], ◌∷◌, ◌++◌, map, codes}
use Rattle.ttp_base.specs.Text.{Lines}
use Rattle.lab_rows.specs.SmallWave.{ended}

-- what stands before the cells
abbrev pub picture_head : Lines
picture_head =
    codes "<svg xmlns=\"http://www.w3.org/2000/svg\" width=\"1140\" height=\"510\" viewBox=\"0 0 1140 510\">"
    ∷ codes "<title>ttpbench trace 1 nodes 4 rounds 1 slots 3 schedule 000000</title>"
    ∷ codes "<style>"
    ∷ codes "text{font:12px DejaVu Sans Mono,Consolas,monospace}g text{text-anchor:middle;font-size:11px}"
    ∷ codes ".off rect{fill:#ffffff}.off text{fill:#9a9a9a}"
    ∷ codes ".wait rect{fill:#f0f0f0}.wait text{fill:#8a8a8a}"
    ∷ codes ".retry rect{fill:#cfcfcf}.retry text{fill:#000000}"
    ∷ codes ".gone rect{fill:#d9d9d9}.gone text{fill:#a6a6a6}"
    ∷ codes ".start rect{fill:#004b7c}.start text{fill:#ffffff}"
    ∷ codes ".join rect{fill:#56b4e9}.join text{fill:#000000}"
    ∷ codes ".send rect{fill:#0072b2}.send text{fill:#ffffff}"
    ∷ codes ".correct rect{fill:#e3f2fb}.correct text{fill:#6c8798}"
    ∷ codes ".tentative rect{fill:#f0e442}.tentative text{fill:#000000}"
    ∷ codes ".incorrect rect{fill:#e69f00}.incorrect text{fill:#000000}"
    ∷ codes ".invalid rect{fill:#cc79a7}.invalid text{fill:#000000}"
    ∷ codes ".null rect{fill:#ffffff}.null text{fill:#000000}"
    ∷ codes ".denied rect{fill:#b03a00}.denied text{fill:#ffffff}"
    ∷ codes ".unacknowledged rect{fill:#b03a00}.unacknowledged text{fill:#ffffff}"
    ∷ codes ".clique rect{fill:#b03a00}.clique text{fill:#ffffff}"
    ∷ codes ".null rect{stroke:#a0a0a0}.off rect{stroke:#c0c0c0;stroke-dasharray:2}"
    ∷ codes ".other rect{stroke:#d00000;stroke-width:2}.doubt rect{stroke:#000000;stroke-width:2;stroke-dasharray:3 2}"
    ∷ codes ".data text{text-decoration:underline}.refused rect{fill:#d00000}.round{fill:#7a8a94}"
    ∷ codes ".agree rect,.none rect{fill:#ffffff}.none text{fill:#555555;font-size:7.5px}.apart rect{fill:#ffffff}.apart text{fill:#555555;font-size:10px}"
    ∷ codes ".differ rect{fill:#000000}.differ text{fill:#ffffff;font-weight:bold}"
    ∷ codes ".row{text-anchor:end}.slot{text-anchor:middle;font-size:10px;fill:#444444}.said{font-weight:bold}"
    ∷ codes "rect.why{fill:#ffffff}text.why{fill:#b03a00;font-weight:bold;font-size:11px}"
    ∷ codes ".write,.read,.status{stroke:#000000}.write{fill:#00c853}.read{fill:#ffd000}.status{fill:#e040fb}"
    ∷ codes ".flag{stroke:#000000}.keep{text-anchor:end;font-size:10px}.back{font-size:10px}"
    ∷ codes ".why,.flag,.round{pointer-events:none}"
    ∷ codes "</style>"
    ∷ codes "<rect width=\"1140\" height=\"510\" fill=\"#ffffff\"/>"
    ∷ codes "<text x=\"12\" y=\"20\">ttpbench trace 1 nodes 4 rounds 1 slots 3 schedule 000000</text>"
    ∷ codes "<text x=\"12\" y=\"40\">shown: slots 0 to 2 of 0 to 2</text>"
    ∷ codes "<text class=\"said\" x=\"12\" y=\"60\">keeps no H5 1: two or more nodes lost a frame, but not all</text>"
    ∷ codes "<text class=\"said\" x=\"12\" y=\"78\">returns no Q8 2: the node armed in this slot is not owed its place</text>"
    ∷ codes "<text class=\"row\" x=\"64\" y=\"134\">node 0</text>"
    ∷ codes "<text class=\"row\" x=\"64\" y=\"154\">node 1</text>"
    ∷ codes "<text class=\"row\" x=\"64\" y=\"174\">node 2</text>"
    ∷ codes "<text class=\"row\" x=\"64\" y=\"194\">node 3</text>"
    ∷ codes "<text class=\"row\" x=\"64\" y=\"218\">members</text>"
    ∷ codes "<text class=\"row\" x=\"64\" y=\"238\">clocks</text>"
    ∷ codes "<text class=\"row\" x=\"64\" y=\"258\">apart</text>"
    ∷ []

-- the cells of each slot
abbrev pub picture_slot_0 : Lines
picture_slot_0 =
    codes "<text class=\"slot\" x=\"81\" y=\"115\">0</text>"
    ∷ codes "<path class=\"round\" d=\"M71 117h1v86h-1z\"/>"
    ∷ codes "<g class=\"send data\"><title>slot 0 node 0 send peer 0 msg 4 mem 0007 acc 2 rej 0 ack first clock 5</title><rect x=\"72\" y=\"120\" width=\"19\" height=\"19\"/><text x=\"81\" y=\"134\">s</text></g>"
    ∷ codes "<g class=\"correct data\"><title>slot 0 node 1 correct peer 0 msg 4 mem 0007 acc 3 rej 0 ack none clock -3</title><rect x=\"72\" y=\"140\" width=\"19\" height=\"19\"/><text x=\"81\" y=\"154\">c</text></g>"
    ∷ codes "<g class=\"correct other\"><title>slot 0 node 2 correct peer 0 msg - mem 0006 acc 3 rej 1 ack none clock 0</title><rect x=\"72\" y=\"160\" width=\"19\" height=\"19\"/><text x=\"81\" y=\"174\">c</text></g>"
    ∷ codes "<g class=\"off\"><title>slot 0 node 3 off peer - msg - mem 0000 acc 0 rej 0 ack none clock 0</title><rect x=\"72\" y=\"180\" width=\"19\" height=\"19\"/><text x=\"81\" y=\"194\">o</text></g>"
    ∷ codes "<g class=\"differ\"><title>slot 0 members 0007 of 0 1 0006 of 2</title><rect x=\"72\" y=\"204\" width=\"19\" height=\"19\"/><text x=\"81\" y=\"218\">!</text></g>"
    ∷ codes "<g class=\"none\"><title>slot 0 clocks apart 8</title><rect x=\"72\" y=\"224\" width=\"19\" height=\"19\"/><text x=\"81\" y=\"238\">8</text></g>"
    ∷ codes "<g class=\"apart\"><title>slot 0 clock apart from most node 0</title><rect x=\"72\" y=\"244\" width=\"19\" height=\"19\"/><text x=\"81\" y=\"258\">0</text></g>"
    ∷ []

-- of slot 1
abbrev pub picture_slot_1 : Lines
picture_slot_1 =
    codes "<g class=\"tentative doubt\"><title>slot 1 node 0 tentative peer 1 msg - mem 0007 acc 2 rej 0 ack doubt:1 clock 5</title><rect x=\"92\" y=\"120\" width=\"19\" height=\"19\"/><text x=\"101\" y=\"134\">t</text></g>"
    ∷ codes "<g class=\"send\"><title>slot 1 node 1 send peer 1 msg - mem 0007 acc 1 rej 0 ack first clock -3</title><rect x=\"92\" y=\"140\" width=\"19\" height=\"19\"/><text x=\"101\" y=\"154\">s</text></g>"
    ∷ codes "<g class=\"clique\"><title>slot 1 node 2 clique peer 1 msg - mem 0000 acc 0 rej 0 ack none clock 0</title><rect x=\"92\" y=\"160\" width=\"19\" height=\"19\"/><text x=\"101\" y=\"174\">Q</text></g>"
    ∷ codes "<g class=\"wait\"><title>slot 1 node 3 wait peer - msg - mem 0000 acc 0 rej 0 ack none clock 0</title><rect x=\"92\" y=\"180\" width=\"19\" height=\"19\"/><text x=\"101\" y=\"194\">w</text></g>"
    ∷ codes "<g class=\"agree\"><title>slot 1 members 0007 of 1</title><rect x=\"92\" y=\"204\" width=\"19\" height=\"19\"/><text x=\"101\" y=\"218\">3</text></g>"
    ∷ codes "<g class=\"none\"><title>slot 1 clocks apart 8</title><rect x=\"92\" y=\"224\" width=\"19\" height=\"19\"/><text x=\"101\" y=\"238\">8</text></g>"
    ∷ codes "<g class=\"apart\"><title>slot 1 clock apart from most -</title><rect x=\"92\" y=\"244\" width=\"19\" height=\"19\"/><text x=\"101\" y=\"258\">-</text></g>"
    ∷ []

-- of slot 2
abbrev pub picture_slot_2 : Lines
picture_slot_2 =
    codes "<g class=\"denied\"><title>slot 2 node 0 denied peer 2 msg - mem 0000 acc 0 rej 0 ack none clock 5</title><rect x=\"112\" y=\"120\" width=\"19\" height=\"19\"/><text x=\"121\" y=\"134\">D</text></g>"
    ∷ codes "<g class=\"null\"><title>slot 2 node 1 null peer 2 msg - mem 0003 acc 1 rej 0 ack first clock -3</title><rect x=\"112\" y=\"140\" width=\"19\" height=\"19\"/><text x=\"121\" y=\"154\">n</text></g>"
    ∷ codes "<g class=\"gone\"><title>slot 2 node 2 gone peer - msg - mem 0000 acc 0 rej 0 ack none clock 0</title><rect x=\"112\" y=\"160\" width=\"19\" height=\"19\"/><text x=\"121\" y=\"174\">g</text></g>"
    ∷ codes "<g class=\"wait\"><title>slot 2 node 3 wait peer - msg - mem 0000 acc 0 rej 0 ack none clock 0</title><rect x=\"112\" y=\"180\" width=\"19\" height=\"19\"/><text x=\"121\" y=\"194\">w</text></g>"
    ∷ codes "<g class=\"agree\"><title>slot 2 members 0003 of 1</title><rect x=\"112\" y=\"204\" width=\"19\" height=\"19\"/><text x=\"121\" y=\"218\">2</text></g>"
    ∷ codes "<g class=\"none\"><title>slot 2 clocks apart 0</title><rect x=\"112\" y=\"224\" width=\"19\" height=\"19\"/><text x=\"121\" y=\"238\">0</text></g>"
    ∷ codes "<g class=\"apart\"><title>slot 2 clock apart from most -</title><rect x=\"112\" y=\"244\" width=\"19\" height=\"19\"/><text x=\"121\" y=\"258\">-</text></g>"
    ∷ []

-- what stands beside them, and the flags
abbrev pub picture_beside : Lines
picture_beside =
    codes "<path class=\"write\" d=\"M72 139v-10l10 10z\"><title>slot 0 host 0 write 5</title></path>"
    ∷ codes "<path class=\"write\" d=\"M72 139v-10l10 10z\"><title>slot 0 host 0 write 6</title></path>"
    ∷ codes "<path class=\"read\" d=\"M91 159h-10l10-10z\"><title>slot 0 host 1 read 0 3 0a</title></path>"
    ∷ codes "<path class=\"read\" d=\"M91 159h-10l10-10z\"><title>slot 0 host 1 read 0 4 0a0b</title></path>"
    ∷ codes "<rect class=\"why\" x=\"112\" y=\"160\" width=\"48\" height=\"19\"/>"
    ∷ codes "<text class=\"why\" x=\"115\" y=\"174\">clique</text>"
    ∷ codes "<path class=\"read\" d=\"M111 159h-10l10-10z\"><title>slot 1 host 1 read 0 4 0c</title></path>"
    ∷ codes "<rect class=\"why\" x=\"132\" y=\"120\" width=\"48\" height=\"19\"/>"
    ∷ codes "<text class=\"why\" x=\"135\" y=\"134\">denied</text>"
    ∷ codes "<path class=\"flag\" d=\"M91 94v106\"/>"
    ∷ codes "<text class=\"keep\" x=\"88\" y=\"103\">H5</text>"
    ∷ codes "<path class=\"flag\" d=\"M111 94v106\"/>"
    ∷ codes "<text class=\"back\" x=\"115\" y=\"103\">Q8</text>"
    ∷ []

-- the legend
abbrev pub picture_legend : Lines
picture_legend =
    codes "<g class=\"off\"><title>off</title><rect x=\"72\" y=\"276\" width=\"19\" height=\"19\"/><text x=\"81\" y=\"290\">o</text></g>"
    ∷ codes "<text x=\"97\" y=\"290\">off: is off</text>"
    ∷ codes "<g class=\"wait\"><title>wait</title><rect x=\"417\" y=\"276\" width=\"19\" height=\"19\"/><text x=\"426\" y=\"290\">w</text></g>"
    ∷ codes "<text x=\"442\" y=\"290\">wait: listens</text>"
    ∷ codes "<g class=\"retry\"><title>retry</title><rect x=\"762\" y=\"276\" width=\"19\" height=\"19\"/><text x=\"771\" y=\"290\">r</text></g>"
    ∷ codes "<text x=\"787\" y=\"290\">retry: withdraws its cold start</text>"
    ∷ codes "<g class=\"gone\"><title>gone</title><rect x=\"72\" y=\"298\" width=\"19\" height=\"19\"/><text x=\"81\" y=\"312\">g</text></g>"
    ∷ codes "<text x=\"97\" y=\"312\">gone: left earlier</text>"
    ∷ codes "<g class=\"start\"><title>start</title><rect x=\"417\" y=\"298\" width=\"19\" height=\"19\"/><text x=\"426\" y=\"312\">S</text></g>"
    ∷ codes "<text x=\"442\" y=\"312\">start: sent its cold-start frame</text>"
    ∷ codes "<g class=\"join\"><title>join</title><rect x=\"762\" y=\"298\" width=\"19\" height=\"19\"/><text x=\"771\" y=\"312\">J</text></g>"
    ∷ codes "<text x=\"787\" y=\"312\">join: joined on a frame</text>"
    ∷ codes "<g class=\"send\"><title>send</title><rect x=\"72\" y=\"320\" width=\"19\" height=\"19\"/><text x=\"81\" y=\"334\">s</text></g>"
    ∷ codes "<text x=\"97\" y=\"334\">send: sent its frame</text>"
    ∷ codes "<g class=\"correct\"><title>correct</title><rect x=\"417\" y=\"320\" width=\"19\" height=\"19\"/><text x=\"426\" y=\"334\">c</text></g>"
    ∷ codes "<text x=\"442\" y=\"334\">correct: accepted the frame</text>"
    ∷ codes "<g class=\"tentative\"><title>tentative</title><rect x=\"762\" y=\"320\" width=\"19\" height=\"19\"/><text x=\"771\" y=\"334\">t</text></g>"
    ∷ codes "<text x=\"787\" y=\"334\">tentative: its own frame may be lost</text>"
    ∷ codes "<g class=\"incorrect\"><title>incorrect</title><rect x=\"72\" y=\"342\" width=\"19\" height=\"19\"/><text x=\"81\" y=\"356\">i</text></g>"
    ∷ codes "<text x=\"97\" y=\"356\">incorrect: a frame of another C-state</text>"
    ∷ codes "<g class=\"invalid\"><title>invalid</title><rect x=\"417\" y=\"342\" width=\"19\" height=\"19\"/><text x=\"426\" y=\"356\">v</text></g>"
    ∷ codes "<text x=\"442\" y=\"356\">invalid: spoilt, or too early or late</text>"
    ∷ codes "<g class=\"null\"><title>null</title><rect x=\"762\" y=\"342\" width=\"19\" height=\"19\"/><text x=\"771\" y=\"356\">n</text></g>"
    ∷ codes "<text x=\"787\" y=\"356\">null: heard nothing</text>"
    ∷ codes "<g class=\"denied\"><title>denied</title><rect x=\"72\" y=\"364\" width=\"19\" height=\"19\"/><text x=\"81\" y=\"378\">D</text></g>"
    ∷ codes "<text x=\"97\" y=\"378\">denied: left: its frame was lost</text>"
    ∷ codes "<g class=\"unacknowledged\"><title>unacknowledged</title><rect x=\"417\" y=\"364\" width=\"19\" height=\"19\"/><text x=\"426\" y=\"378\">U</text></g>"
    ∷ codes "<text x=\"442\" y=\"378\">unacknowledged: left: no answer</text>"
    ∷ codes "<g class=\"clique\"><title>clique</title><rect x=\"762\" y=\"364\" width=\"19\" height=\"19\"/><text x=\"771\" y=\"378\">Q</text></g>"
    ∷ codes "<text x=\"787\" y=\"378\">clique: left: it was outvoted</text>"
    ∷ codes "<g class=\"agree\"><title>members: how many all nodes hold</title><rect x=\"72\" y=\"394\" width=\"19\" height=\"19\"/><text x=\"81\" y=\"408\">4</text></g>"
    ∷ codes "<text x=\"97\" y=\"408\">members: how many all nodes hold</text>"
    ∷ codes "<g class=\"differ\"><title>members: nodes hold different ones</title><rect x=\"417\" y=\"394\" width=\"19\" height=\"19\"/><text x=\"426\" y=\"408\">!</text></g>"
    ∷ codes "<text x=\"442\" y=\"408\">members: nodes hold different ones</text>"
    ∷ codes "<path class=\"round\" d=\"M771 394h1v19h-1z\"/>"
    ∷ codes "<text x=\"787\" y=\"408\">a round begins: node 0 is due</text>"
    ∷ codes "<g class=\"none\"><title>clocks: microticks between them</title><rect x=\"72\" y=\"416\" width=\"19\" height=\"19\"/><text x=\"81\" y=\"430\">7</text></g>"
    ∷ codes "<text x=\"97\" y=\"430\">clocks: microticks between them</text>"
    ∷ codes "<g class=\"none\"><title>12k: 12000 to 12999, 1M+: 1000000 up</title><rect x=\"417\" y=\"416\" width=\"19\" height=\"19\"/><text x=\"426\" y=\"430\">12k</text></g>"
    ∷ codes "<text x=\"442\" y=\"430\">12k: 12000 to 12999, 1M+: 1000000 up</text>"
    ∷ codes "<g class=\"apart\"><title>apart: its clock is far from most</title><rect x=\"762\" y=\"416\" width=\"19\" height=\"19\"/><text x=\"771\" y=\"430\">3</text></g>"
    ∷ codes "<text x=\"787\" y=\"430\">apart: its clock is far from most</text>"
    ∷ codes "<g class=\"correct data\"><title>a message was sent or delivered</title><rect x=\"72\" y=\"438\" width=\"19\" height=\"19\"/><text x=\"81\" y=\"452\">c</text></g>"
    ∷ codes "<text x=\"97\" y=\"452\">a message was sent or delivered</text>"
    ∷ codes "<g class=\"correct other\"><title>holds other members than most</title><rect x=\"417\" y=\"438\" width=\"19\" height=\"19\"/><text x=\"426\" y=\"452\">c</text></g>"
    ∷ codes "<text x=\"442\" y=\"452\">holds other members than most</text>"
    ∷ codes "<g class=\"correct doubt\"><title>in doubt about its own frame</title><rect x=\"762\" y=\"438\" width=\"19\" height=\"19\"/><text x=\"771\" y=\"452\">c</text></g>"
    ∷ codes "<text x=\"787\" y=\"452\">in doubt about its own frame</text>"
    ∷ codes "<g class=\"send refused\"><title>few took the frame of this sender</title><rect x=\"72\" y=\"460\" width=\"19\" height=\"19\"/><text x=\"81\" y=\"474\">s</text></g>"
    ∷ codes "<text x=\"97\" y=\"474\">few took the frame of this sender</text>"
    ∷ codes "<path class=\"write\" d=\"M417 479v-10l10 10z\"><title>its host writes a message</title></path>"
    ∷ codes "<text x=\"442\" y=\"474\">its host writes a message</text>"
    ∷ codes "<path class=\"read\" d=\"M781 479h-10l10-10z\"><title>its host reads a node's message</title></path>"
    ∷ codes "<text x=\"787\" y=\"474\">its host reads a node's message</text>"
    ∷ codes "<path class=\"status\" d=\"M91 482v10l-10-10z\"><title>its host reads its status</title></path>"
    ∷ codes "<text x=\"97\" y=\"496\">its host reads its status</text>"
    ∷ codes "</svg>"
    ∷ []

-- the whole
abbrev pub small_picture : Lines
small_picture =
    map ended (picture_head ++ picture_slot_0 ++ picture_slot_1 ++ picture_slot_2 ++ picture_beside ++ picture_legend)
