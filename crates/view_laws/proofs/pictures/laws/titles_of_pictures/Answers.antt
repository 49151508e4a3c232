use Rattle.view_laws.proofs.LinesAndTitles.{picture_lines-titles, picture_lines-once, picture_lines-plain}
use Rattle.view_laws.proofs.pictures.laws.titles_of_pictures.Goals as goal

pub returns-clause-order : goal.returns-clause-order
returns-clause-order c = picture_lines-titles

pub returns-clause-once : goal.returns-clause-once
returns-clause-once c = picture_lines-once

pub returns-clause-plain : goal.returns-clause-plain
returns-clause-plain c = picture_lines-plain
