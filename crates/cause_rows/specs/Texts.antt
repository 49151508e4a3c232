-- What `ttplab why` writes of these scripts.
use Rattle.std.specs.Prelude.{[], codes, ◌∷◌}
use Rattle.ttp_base.specs.Text.{Lines}

-- node 2 of `latent_loss` is denied
abbrev pub latent_2 : Lines
latent_2 =
    codes "ttplab why 1 nodes 5 slots 45 node 2 slot 24\n"
    ∷ codes "line 8 needed yes receive 3 A silence 0 44\n"
    ∷ codes "line 9 needed yes receive 4 A silence 0 44\n"
    ∷ codes "line 10 needed yes send 2 B silence 22 22\n"
    ∷ codes "slot 22 node 3 null peer 2 lines 8,10 entries - because A silence of line 8, B silence of line 10\n"
    ∷ codes "slot 22 node 4 null peer 2 lines 9,10 entries - because A silence of line 9, B silence of line 10\n"
    ∷ codes "slot 23 node 2 tentative peer 3 lines - entries 22:3 because node 3 does not hold node 2\n"
    ∷ codes "slot 24 node 2 denied peer 4 lines - entries 22:4,23:2 because node 4 holds node 3 and not node 2\n"
    ∷ codes "alone yes\n" ∷ []

-- node 4 of it is unacknowledged
abbrev pub latent_4 : Lines
latent_4 =
    codes "ttplab why 1 nodes 5 slots 45 node 4 slot 29\n"
    ∷ codes "line 8 needed no receive 3 A silence 0 44\n"
    ∷ codes "line 9 needed yes receive 4 A silence 0 44\n"
    ∷ codes "line 10 needed yes send 2 B silence 22 22\n"
    ∷ codes "slot 22 node 3 null peer 2 lines 8,10 entries - because A silence of line 8, B silence of line 10\n"
    ∷ codes "slot 22 node 4 null peer 2 lines 9,10 entries - because A silence of line 9, B silence of line 10\n"
    ∷ codes "slot 23 node 2 tentative peer 3 lines - entries 22:3 because node 3 does not hold node 2\n"
    ∷ codes "slot 24 node 2 denied peer 4 lines - entries 22:4,23:2 because node 4 holds node 3 and not node 2\n"
    ∷ codes "slot 25 node 3 incorrect peer 0 lines - entries 22:3 because node 0 holds node 2 and node 3 does not\n"
    ∷ codes "slot 25 node 4 incorrect peer 0 lines - entries 22:4 because node 0 holds node 2 and node 4 does not\n"
    ∷ codes "slot 26 node 3 incorrect peer 1 lines - entries 22:3 because node 1 holds node 2 and node 3 does not\n"
    ∷ codes "slot 26 node 4 incorrect peer 1 lines - entries 22:4 because node 1 holds node 2 and node 4 does not\n"
    ∷ codes "slot 27 node 3 null peer 2 lines - entries 24:2 because node 2 left in slot 24\n"
    ∷ codes "slot 27 node 4 null peer 2 lines - entries 24:2 because node 2 left in slot 24\n"
    ∷ codes "slot 28 node 3 clique peer 3 lines - entries 22:4,25:3,26:3,27:3 because accepted 2 and rejected 2 since slot 23, node 4 lacks 2 too\n"
    ∷ codes "slot 28 node 4 null peer 3 lines - entries 28:3 because node 3 left in slot 28\n"
    ∷ codes "slot 29 node 4 unacknowledged peer 4 lines - entries 25:4,26:4,27:4,28:4 because no frame accepted since its own in slot 24\n"
    ∷ codes "alone yes\n" ∷ []

-- node 4 of `noisy` is outvoted
abbrev pub noisy_4 : Lines
noisy_4 =
    codes "ttplab why 1 nodes 5 slots 45 node 4 slot 14\n"
    ∷ codes "line 8 needed yes send 1 AB noise 11 11\n"
    ∷ codes "slot 11 node 2 invalid peer 1 lines 8 entries - because AB noise of line 8\n"
    ∷ codes "slot 11 node 3 invalid peer 1 lines 8 entries - because AB noise of line 8\n"
    ∷ codes "slot 11 node 4 invalid peer 1 lines 8 entries - because AB noise of line 8\n"
    ∷ codes "slot 12 node 2 clique peer 2 lines - entries 11:2 because accepted 1 and rejected 1 since slot 10\n"
    ∷ codes "slot 12 node 3 null peer 2 lines - entries 12:2 because node 2 left in slot 12\n"
    ∷ codes "slot 12 node 4 null peer 2 lines - entries 12:2 because node 2 left in slot 12\n"
    ∷ codes "slot 13 node 3 clique peer 3 lines - entries 11:3,12:3 because accepted 1 and rejected 1 since slot 10\n"
    ∷ codes "slot 13 node 4 null peer 3 lines - entries 13:3 because node 3 left in slot 13\n"
    ∷ codes "slot 14 node 4 clique peer 4 lines - entries 11:4,12:4,13:4 because accepted 1 and rejected 1 since slot 10\n"
    ∷ codes "alone yes\n" ∷ []

-- node 1 of `deaf_starter` is denied
abbrev pub deaf_1 : Lines
deaf_1 =
    codes "ttplab why 1 nodes 5 slots 70 node 1 slot 23\n"
    ∷ codes "line 8 needed yes receive 0 AB silence 11 69\n"
    ∷ codes "slot 11 node 0 null peer 1 lines 8 entries - because AB silence of line 8\n"
    ∷ codes "slot 12 node 0 null peer 2 lines 8 entries - because AB silence of line 8\n"
    ∷ codes "slot 13 node 0 null peer 3 lines 8 entries - because AB silence of line 8\n"
    ∷ codes "slot 14 node 0 null peer 4 lines 8 entries - because AB silence of line 8\n"
    ∷ codes "slot 15 node 0 retry peer - lines - entries 11:0,12:0,13:0,14:0 because no frame accepted since its cold start in slot 10\n"
    ∷ codes "slot 21 node 0 start peer 0 lines 8 entries 15:0 because silence in 5 slots\n"
    ∷ codes "slot 21 node 2 invalid peer 1 lines - entries 21:0 because AB collision of nodes 0,1\n"
    ∷ codes "slot 21 node 3 invalid peer 1 lines - entries 21:0 because AB collision of nodes 0,1\n"
    ∷ codes "slot 22 node 1 tentative peer 2 lines - entries 21:2 because node 2 does not hold node 1\n"
    ∷ codes "slot 23 node 1 denied peer 3 lines - entries 21:3,22:1 because node 3 holds node 2 and not node 1\n"
    ∷ codes "alone yes\n" ∷ []

-- node 2 of it is unacknowledged
abbrev pub deaf_2 : Lines
deaf_2 =
    codes "ttplab why 1 nodes 5 slots 70 node 2 slot 61\n"
    ∷ codes "line 3 needed - on 0 0\n"
    ∷ codes "line 8 needed yes receive 0 AB silence 11 69\n"
    ∷ codes "line 10 needed - arm 2 40\n"
    ∷ codes "slot 10 node 0 start peer 0 lines 3 entries - because silence in 10 slots\n"
    ∷ codes "slot 11 node 0 null peer 1 lines 8 entries - because AB silence of line 8\n"
    ∷ codes "slot 12 node 0 null peer 2 lines 8 entries - because AB silence of line 8\n"
    ∷ codes "slot 13 node 0 null peer 3 lines 8 entries - because AB silence of line 8\n"
    ∷ codes "slot 14 node 0 null peer 4 lines 8 entries - because AB silence of line 8\n"
    ∷ codes "slot 15 node 0 retry peer - lines - entries 11:0,12:0,13:0,14:0 because no frame accepted since its cold start in slot 10\n"
    ∷ codes "slot 21 node 0 start peer 0 lines 8 entries 15:0 because silence in 5 slots\n"
    ∷ codes "slot 21 node 2 invalid peer 1 lines - entries 21:0 because AB collision of nodes 0,1\n"
    ∷ codes "slot 21 node 3 invalid peer 1 lines - entries 21:0 because AB collision of nodes 0,1\n"
    ∷ codes "slot 22 node 0 null peer 1 lines 8 entries - because AB silence of line 8\n"
    ∷ codes "slot 22 node 1 tentative peer 2 lines - entries 21:2 because node 2 does not hold node 1\n"
    ∷ codes "slot 23 node 0 null peer 2 lines 8 entries - because AB silence of line 8\n"
    ∷ codes "slot 23 node 1 denied peer 3 lines - entries 21:3,22:1 because node 3 holds node 2 and not node 1\n"
    ∷ codes "slot 24 node 0 null peer 3 lines 8 entries - because AB silence of line 8\n"
    ∷ codes "slot 25 node 0 null peer 4 lines 8 entries - because AB silence of line 8\n"
    ∷ codes "slot 26 node 0 retry peer - lines - entries 21:0,22:0,23:0,24:0,25:0 because no frame accepted since its cold start in slot 21\n"
    ∷ codes "slot 32 node 0 start peer 0 lines 8 entries 26:0 because silence in 5 slots\n"
    ∷ codes "slot 32 node 3 invalid peer 2 lines - entries 32:0 because AB collision of nodes 0,2\n"
    ∷ codes "slot 32 node 4 invalid peer 2 lines - entries 32:0 because AB collision of nodes 0,2\n"
    ∷ codes "slot 33 node 0 null peer 1 lines 8 entries - because AB silence of line 8\n"
    ∷ codes "slot 33 node 2 tentative peer 3 lines - entries 32:3 because node 3 does not hold node 2\n"
    ∷ codes "slot 34 node 0 null peer 2 lines 8 entries - because AB silence of line 8\n"
    ∷ codes "slot 34 node 2 denied peer 4 lines - entries 32:4,33:2 because node 4 holds node 3 and not node 2\n"
    ∷ codes "slot 35 node 0 null peer 3 lines 8 entries - because AB silence of line 8\n"
    ∷ codes "slot 36 node 0 null peer 4 lines 8 entries - because AB silence of line 8\n"
    ∷ codes "slot 37 node 0 retry peer - lines - entries 32:0,33:0,34:0,35:0,36:0 because no frame accepted since its cold start in slot 32\n"
    ∷ codes "slot 40 node 0 wait peer - lines 8 entries 37:0 because no frame to join on since slot 38\n"
    ∷ codes "slot 40 node 4 null peer 0 lines - entries 40:0 because node 0 listens\n"
    ∷ codes "slot 41 node 4 null peer 1 lines - entries 23:1 because node 1 left in slot 23\n"
    ∷ codes "slot 42 node 2 wait peer - lines 10 entries 34:2 because no frame to join on since slot 40\n"
    ∷ codes "slot 42 node 4 null peer 2 lines - entries 42:2 because node 2 listens\n"
    ∷ codes "slot 43 node 0 start peer 0 lines 8 entries 37:0 because silence in 5 slots\n"
    ∷ codes "slot 43 node 4 invalid peer 3 lines - entries 43:0 because AB collision of nodes 0,3\n"
    ∷ codes "slot 44 node 4 unacknowledged peer 4 lines - entries 40:4,41:4,42:4,43:4 because no frame accepted since its own in slot 39\n"
    ∷ codes "slot 44 node 0 null peer 1 lines 8 entries - because AB silence of line 8\n"
    ∷ codes "slot 44 node 3 null peer 4 lines - entries 44:4 because node 4 left in slot 44\n"
    ∷ codes "slot 45 node 0 null peer 2 lines 8 entries - because AB silence of line 8\n"
    ∷ codes "slot 45 node 3 null peer 0 lines - entries 10:0,43:0 because node 0 is at another place\n"
    ∷ codes "slot 46 node 0 null peer 3 lines 8 entries - because AB silence of line 8\n"
    ∷ codes "slot 46 node 3 null peer 1 lines - entries 23:1 because node 1 left in slot 23\n"
    ∷ codes "slot 47 node 2 wait peer - lines 10 entries 34:2,43:0 because no frame to join on since slot 40\n"
    ∷ codes "slot 47 node 0 null peer 4 lines 8 entries - because AB silence of line 8\n"
    ∷ codes "slot 47 node 3 null peer 2 lines - entries 47:2 because node 2 listens\n"
    ∷ codes "slot 48 node 0 retry peer - lines - entries 43:0,44:0,45:0,46:0,47:0 because no frame accepted since its cold start in slot 43\n"
    ∷ codes "slot 48 node 3 unacknowledged peer 3 lines - entries 44:3,45:3,46:3,47:3 because no frame accepted since its own in slot 43\n"
    ∷ codes "slot 54 node 0 start peer 0 lines - entries 48:0 because silence in 5 slots\n"
    ∷ codes "slot 55 node 0 null peer 1 lines 8 entries - because AB silence of line 8\n"
    ∷ codes "slot 56 node 0 null peer 2 lines 8 entries - because AB silence of line 8\n"
    ∷ codes "slot 57 node 0 null peer 3 lines 8 entries - because AB silence of line 8\n"
    ∷ codes "slot 57 node 2 null peer 3 lines - entries 48:3 because node 3 left in slot 48\n"
    ∷ codes "slot 58 node 0 null peer 4 lines 8 entries - because AB silence of line 8\n"
    ∷ codes "slot 58 node 2 null peer 4 lines - entries 44:4 because node 4 left in slot 44\n"
    ∷ codes "slot 59 node 0 retry peer - lines - entries 54:0,55:0,56:0,57:0,58:0 because no frame accepted since its cold start in slot 54\n"
    ∷ codes "slot 59 node 2 null peer 0 lines - entries 59:0 because node 0 retries\n"
    ∷ codes "slot 60 node 2 null peer 1 lines - entries 23:1 because node 1 left in slot 23\n"
    ∷ codes "slot 61 node 2 unacknowledged peer 2 lines - entries 54:0,57:2,58:2,59:2,60:2 because no frame accepted since its own in slot 56, by the start of slot 54\n"
    ∷ codes "alone yes\n" ∷ []

-- node 4 of `clocks` is unacknowledged
abbrev pub clocks_4 : Lines
clocks_4 =
    codes "ttplab why 1 nodes 5 slots 70 node 4 slot 54\n"
    ∷ codes "line 13 needed yes send 2 AB silence 22 22\n"
    ∷ codes "line 14 needed yes send 0 AB silence 40 40\n"
    ∷ codes "slot 22 node 3 null peer 2 lines 13 entries - because AB silence of line 13\n"
    ∷ codes "slot 22 node 4 null peer 2 lines 13 entries - because AB silence of line 13\n"
    ∷ codes "slot 23 node 2 tentative peer 3 lines - entries 22:3 because node 3 does not hold node 2\n"
    ∷ codes "slot 24 node 2 denied peer 4 lines - entries 22:4,23:2 because node 4 holds node 3 and not node 2\n"
    ∷ codes "slot 40 node 1 null peer 0 lines 14 entries - because AB silence of line 14\n"
    ∷ codes "slot 40 node 3 null peer 0 lines 14 entries - because AB silence of line 14\n"
    ∷ codes "slot 40 node 4 null peer 0 lines 14 entries - because AB silence of line 14\n"
    ∷ codes "slot 41 node 0 tentative peer 1 lines - entries 40:1 because node 1 does not hold node 0\n"
    ∷ codes "slot 42 node 0 null peer 2 lines - entries 24:2 because node 2 left in slot 24\n"
    ∷ codes "slot 42 node 1 null peer 2 lines - entries 24:2 because node 2 left in slot 24\n"
    ∷ codes "slot 42 node 3 null peer 2 lines - entries 24:2 because node 2 left in slot 24\n"
    ∷ codes "slot 42 node 4 null peer 2 lines - entries 24:2 because node 2 left in slot 24\n"
    ∷ codes "slot 43 node 0 denied peer 3 lines - entries 40:3,41:0,42:0 because node 3 holds node 1 and not node 0\n"
    ∷ codes "slot 45 node 1 null peer 0 lines - entries 43:0 because node 0 left in slot 43\n"
    ∷ codes "slot 45 node 3 null peer 0 lines - entries 43:0 because node 0 left in slot 43\n"
    ∷ codes "slot 45 node 4 null peer 0 lines - entries 43:0 because node 0 left in slot 43\n"
    ∷ codes "slot 47 node 1 null peer 2 lines - entries 24:2 because node 2 left in slot 24\n"
    ∷ codes "slot 47 node 3 null peer 2 lines - entries 24:2 because node 2 left in slot 24\n"
    ∷ codes "slot 47 node 4 null peer 2 lines - entries 24:2 because node 2 left in slot 24\n"
    ∷ codes "slot 48 node 4 invalid peer 3 lines - entries 40:3,40:4,42:3,42:4 because clock -25 past window 24, node 3 not corrected, node 4 not corrected\n"
    ∷ codes "slot 49 node 1 invalid peer 4 lines - entries 40:1,40:4,42:1,42:4 because clock 27 past window 24, node 1 not corrected, node 4 not corrected\n"
    ∷ codes "slot 49 node 3 invalid peer 4 lines - entries 40:3,40:4,42:3,42:4 because clock 27 past window 24, node 3 not corrected, node 4 not corrected\n"
    ∷ codes "slot 50 node 4 null peer 0 lines - entries 43:0 because node 0 left in slot 43\n"
    ∷ codes "slot 51 node 4 invalid peer 1 lines - entries 45:1,45:4,47:1,47:4,48:4,49:1 because clock -31 past window 24, node 1 not corrected, node 4 not corrected\n"
    ∷ codes "slot 52 node 4 null peer 2 lines - entries 24:2 because node 2 left in slot 24\n"
    ∷ codes "slot 53 node 4 invalid peer 3 lines - entries 45:3,45:4,47:3,47:4,48:4,49:3 because clock -35 past window 24, node 3 not corrected, node 4 not corrected\n"
    ∷ codes "slot 54 node 4 unacknowledged peer 4 lines - entries 50:4,51:4,52:4,53:4 because no frame accepted since its own in slot 49\n"
    ∷ codes "alone yes\n" ∷ []

-- node 2 of `jump` is unacknowledged
abbrev pub jump_2 : Lines
jump_2 =
    codes "ttplab why 1 nodes 5 slots 45 node 2 slot 27\n"
    ∷ codes "line 11 needed yes jump 2 4 22\n"
    ∷ codes "slot 23 node 2 invalid peer 3 lines 11 entries - because clock -4 past window 1\n"
    ∷ codes "slot 24 node 2 invalid peer 4 lines 11 entries - because clock -4 past window 1\n"
    ∷ codes "slot 25 node 2 invalid peer 0 lines 11 entries - because clock -4 past window 1\n"
    ∷ codes "slot 26 node 2 invalid peer 1 lines 11 entries - because clock -4 past window 1\n"
    ∷ codes "slot 27 node 2 unacknowledged peer 2 lines - entries 23:2,24:2,25:2,26:2 because no frame accepted since its own in slot 22\n"
    ∷ codes "alone yes\n" ∷ []

-- it sends in slot 22
abbrev pub jump_2_22 : Lines
jump_2_22 =
    codes "ttplab why 1 nodes 5 slots 45 node 2 slot 22\n"
    ∷ codes "slot 22 node 2 send peer 2 lines - entries - because its own slot\n"
    ∷ codes "alone yes\n" ∷ []

-- which node 3 does not hear
abbrev pub jump_3_22 : Lines
jump_3_22 =
    codes "ttplab why 1 nodes 5 slots 45 node 3 slot 22\n"
    ∷ codes "line 12 needed yes receive 3 AB silence 22 22\n"
    ∷ codes "slot 22 node 3 null peer 2 lines 12 entries - because AB silence of line 12\n"
    ∷ codes "alone yes\n" ∷ []

-- node 3 of `flips` is denied
abbrev pub flips_3 : Lines
flips_3 =
    codes "ttplab why 1 nodes 5 slots 60 node 3 slot 37\n"
    ∷ codes "line 10 needed yes flip 3 AB 13 35\n"
    ∷ codes "line 11 needed no flip 3 B 14 35\n"
    ∷ codes "slot 35 node 0 incorrect peer 3 lines 10,11 entries - because A flips of line 10, B flips of line 10,11\n"
    ∷ codes "slot 35 node 4 incorrect peer 3 lines 10,11 entries - because A flips of line 10, B flips of line 10,11\n"
    ∷ codes "slot 36 node 3 tentative peer 4 lines - entries 35:4 because node 4 does not hold node 3\n"
    ∷ codes "slot 37 node 3 denied peer 0 lines - entries 35:0,36:3 because node 0 holds node 4 and not node 3\n"
    ∷ codes "alone yes\n" ∷ []

-- node 4 judges its frame
abbrev pub flips_4_35 : Lines
flips_4_35 =
    codes "ttplab why 1 nodes 5 slots 60 node 4 slot 35\n"
    ∷ codes "line 10 needed yes flip 3 AB 13 35\n"
    ∷ codes "line 11 needed no flip 3 B 14 35\n"
    ∷ codes "slot 35 node 4 incorrect peer 3 lines 10,11 entries - because A flips of line 10, B flips of line 10,11\n"
    ∷ codes "alone yes\n" ∷ []

-- node 0 withdraws its cold start
abbrev pub flips_0_16 : Lines
flips_0_16 =
    codes "ttplab why 1 nodes 5 slots 60 node 0 slot 16\n"
    ∷ codes "line 3 needed - on 0 1\n"
    ∷ codes "line 4 needed - on 1 0\n"
    ∷ codes "slot 11 node 0 start peer 0 lines 3 entries - because silence in 10 slots\n"
    ∷ codes "slot 11 node 1 start peer 1 lines 4 entries - because silence in 11 slots\n"
    ∷ codes "slot 12 node 0 null peer 1 lines - entries 11:0,11:1 because node 1 is at another place\n"
    ∷ codes "slot 13 node 2 wait peer - lines - entries 11:0,11:1 because no frame to join on since slot 0\n"
    ∷ codes "slot 13 node 0 null peer 2 lines - entries 13:2 because node 2 listens\n"
    ∷ codes "slot 14 node 3 wait peer - lines - entries 11:0,11:1 because no frame to join on since slot 0\n"
    ∷ codes "slot 14 node 0 null peer 3 lines - entries 14:3 because node 3 listens\n"
    ∷ codes "slot 15 node 4 wait peer - lines - entries 11:0,11:1 because no frame to join on since slot 0\n"
    ∷ codes "slot 15 node 0 null peer 4 lines - entries 15:4 because node 4 listens\n"
    ∷ codes "slot 16 node 0 retry peer - lines - entries 12:0,13:0,14:0,15:0 because no frame accepted since its cold start in slot 11\n"
    ∷ codes "alone yes\n" ∷ []
