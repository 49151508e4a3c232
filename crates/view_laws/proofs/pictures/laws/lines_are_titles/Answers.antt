use Rattle.view_laws.specs.Titles.{titles, is_of_slot, texts_of_lines}
use Rattle.picture_text.specs.Picture.{picture_lines}
use Rattle.view_laws.proofs.SlotTexts.{count-same}
use Rattle.view_laws.proofs.LinesAndTitles.{slot-lines, node-line, hidden-lines}
use Rattle.view_laws.proofs.pictures.laws.lines_are_titles.Goals as goal

pub returns-clause-slot : goal.returns-clause-slot
returns-clause-slot c = slot-lines

pub returns-clause-line : goal.returns-clause-line
returns-clause-line c = λ text trace asked t line is shows of_slot.
    count-same (is_of_slot t) (titles (picture_lines trace asked)) (texts_of_lines text) line
    (slot-lines text trace asked t is shows) of_slot

pub returns-clause-node : goal.returns-clause-node
returns-clause-node c = node-line

pub returns-clause-hidden : goal.returns-clause-hidden
returns-clause-hidden c = hidden-lines
