-- A campaign of four nodes with the losses of one node and the jumps of another, and what it says.
use Rattle.std.specs.Prelude.{ℕ, Bool, true, false, List, [], ◌∷◌, ◌++◌, Some, None, codes, map, is_some}
use Rattle.std.specs.List.{concat}
use Rattle.ttp_base.specs.Text.{newline}
use Rattle.ttp_world.specs.declared.keep.Keep.TheVariants as keep
use Rattle.whole_campaign.specs.declared.shown.Doing.{Doing}
use Rattle.whole_campaign.specs.declared.shown.Doing.TheVariants as doing
use Rattle.whole_campaign.specs.declared.shown.Piece.{Piece}
use Rattle.whole_campaign.specs.declared.shown.Test.TheVariants as test
use Rattle.whole_campaign.specs.Faults.{fault_line_in}
use Rattle.whole_campaign.specs.Own.{Common, OwnShown}
use Rattle.whole_campaign.specs.Whole.{FaultTold, WholeCampaign}

-- The text.

-- what nothing costs, what a loss costs its own node, and what runs cost outside the hypothesis
abbrev pub quiet_words : List ℕ
quiet_words = codes "left - hurt - split - - end 000f"

abbrev pub lost_words : List ℕ
lost_words = codes "left 1:10:denied hurt - split - - end 000d"

abbrev pub torn_words : List ℕ
torn_words = codes "left 1:9:clique,3:12:unacknowledged hurt 1,3 split 9 12 end 0001,0008"

abbrev pub dead_words : List ℕ
dead_words = codes "left 0:10:denied,1:11:clique hurt - split - - end -"

-- the answers of the test
abbrev pub says_yes_5 : List ℕ
says_yes_5 = codes "keeps yes start 5 "

abbrev pub says_no_8 : List ℕ
says_no_8 = codes "keeps no H6 8 "

abbrev pub says_no_9 : List ℕ
says_no_9 = codes "keeps no H3 9 "

abbrev pub own_text : List ℕ
own_text = codes "slot - node - " ++ says_yes_5 ++ quiet_words ++ codes " fault -"

-- a loss of node 1, and a jump of node 0
abbrev pub loss_text : List ℕ → List ℕ → List ℕ → List ℕ
loss_text answer words fault = codes "slot 8 node 1 " ++ answer ++ words ++ codes " fault send 1 " ++ fault

abbrev pub jump_text : List ℕ → List ℕ → List ℕ → List ℕ
jump_text answer words fault = codes "slot 9 node 0 " ++ answer ++ words
    ++ codes " fault jump 0 " ++ fault ++ codes " 9"

-- What it says.

-- of a fault of a place that changes nothing, by its text
abbrev pub same_told : ℕ → ℕ → Doing → ℕ → Bool → List ℕ → FaultTold
same_told slot node d place covered text = record {
  shown = record {
    slot = slot;
    node = node;
    doing = d;
    place = place;
    yes = covered;
    same = true;
    hurt = 0;
    split = false;
    memberships = 1;
    company = true;
  };
  text = text;
}

-- of a loss that costs its node
abbrev pub lost_told : ℕ → List ℕ → FaultTold
lost_told place fault = record {
  shown = record {
    slot = 8;
    node = 1;
    doing = doing.Send;
    place = place;
    yes = true;
    same = false;
    hurt = 0;
    split = false;
    memberships = 1;
    company = true;
  };
  text = loss_text says_yes_5 lost_words fault;
}

abbrev pub torn_told : FaultTold
torn_told = record {
  shown = record {
    slot = 8;
    node = 1;
    doing = doing.Send;
    place = 5;
    yes = false;
    same = false;
    hurt = 2;
    split = true;
    memberships = 2;
    company = false;
  };
  text = loss_text says_no_8 torn_words (codes "B noise 8 8");
}

abbrev pub dead_told : FaultTold
dead_told = record {
  shown = record {
    slot = 9;
    node = 0;
    doing = doing.Jump;
    place = 13;
    yes = false;
    same = false;
    hurt = 0;
    split = false;
    memberships = 0;
    company = false;
  };
  text = jump_text says_no_9 dead_words (codes "-4");
}

-- losses and jumps that change nothing
abbrev pub same_loss : ℕ → List ℕ → FaultTold
same_loss place fault =
    same_told 8 1 doing.Send place true (loss_text says_yes_5 quiet_words fault)

abbrev pub same_jump : ℕ → List ℕ → FaultTold
same_jump place value = same_told 9 0 doing.Jump place true (jump_text says_yes_5 quiet_words value)

-- all faults
abbrev pub small_faults : List FaultTold
small_faults =
    lost_told 0 (codes "AB silence 8 8")
    ∷ lost_told 1 (codes "AB noise 8 8")
    ∷ same_loss 2 (codes "A silence 8 8")
    ∷ same_told 8 1 doing.Send 3 false (loss_text says_no_8 quiet_words (codes "A noise 8 8"))
    ∷ same_loss 4 (codes "B silence 8 8")
    ∷ torn_told
    ∷ same_loss 6 (codes "AB silence 8 29")
    ∷ same_loss 7 (codes "AB noise 8 29")
    ∷ same_loss 8 (codes "A silence 8 29")
    ∷ same_loss 9 (codes "A noise 8 29")
    ∷ same_loss 10 (codes "B silence 8 29")
    ∷ same_loss 11 (codes "B noise 8 29")
    ∷ same_jump 12 (codes "4")
    ∷ dead_told
    ∷ same_jump 14 (codes "1")
    ∷ same_told 9 0 doing.Jump 15 false (jump_text says_no_9 quiet_words (codes "-1"))
    ∷ []

abbrev pub small_own : OwnShown
small_own = record {
  text = own_text;
  test_text = codes "keeps yes start 5";
  cost = quiet_words;
  test = test.Keep (keep.Yes 5);
}

abbrev pub small_campaign : WholeCampaign
small_campaign = record {
  nodes = 4;
  slots = 30;
  own = small_own;
  pieces = (record {
    first = 8;
    last = 9;
    kept = record { runs = 12; same = 10; hurt = 0; split = 0; torn = 0; dead = 0 };
    broken = record { runs = 4; same = 2; hurt = 1; split = 1; torn = 1; dead = 2 };
  }) ∷ [];
  faults = small_faults;
}

-- its text
abbrev pub small_text : List ℕ
small_text =
    codes "ttplab campaign 1 nodes 4 slots 30 from 8 to 9\n" ++ own_text ++ newline
    ++ concat (map (λ f. f.text ++ newline) small_faults)
    ++ codes "kept 12 same 10 hurt 0 split 0 torn 0 dead 0\nbroken 4 same 2 hurt 1 split 1 torn 1 dead 2\n"

-- Lines in it.

abbrev pub small_common : Common
small_common = record { nodes = 4; slots = 30; own = small_own }

-- a piece of the range from 8 to 9; its counts play no part in which faults are due
abbrev pub small_piece : Piece
small_piece = record {
  first = 8;
  last = 9;
  kept = record { runs = 0; same = 0; hurt = 0; split = 0; torn = 0; dead = 0 };
  broken = record { runs = 0; same = 0; hurt = 0; split = 0; torn = 0; dead = 0 };
}

-- whether a line is due behind the faults of these places: none, a loss of node 1 in slot 8, and a jump there
abbrev pub is_first : List ℕ → Bool
is_first line = is_some (fault_line_in small_common small_piece None line)

abbrev pub is_behind_loss : ℕ → List ℕ → Bool
is_behind_loss place line =
    is_some (fault_line_in small_common small_piece
    (Some (record { slot = 8; node = 1; doing = doing.Send; place = place })) line)

abbrev pub is_behind_jump : ℕ → List ℕ → Bool
is_behind_jump place line =
    is_some (fault_line_in small_common small_piece
    (Some (record { slot = 8; node = 1; doing = doing.Jump; place = place })) line)

-- the line of a first loss with this test, and with this cost
abbrev pub with_test : List ℕ → List ℕ
with_test answer =
    codes "slot 8 node 1 " ++ answer ++ codes " " ++ quiet_words ++ codes " fault send 1 AB silence 8 8"

abbrev pub with_cost : List ℕ → List ℕ
with_cost words = loss_text says_yes_5 words (codes "AB silence 8 8")
