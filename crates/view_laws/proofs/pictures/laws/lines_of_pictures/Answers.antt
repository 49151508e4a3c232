use Rattle.view_laws.proofs.LinesAndTitles.{picture_lines-each}
use Rattle.view_laws.proofs.pictures.laws.lines_of_pictures.Goals as goal

pub returns : goal.returns
returns c = picture_lines-each
