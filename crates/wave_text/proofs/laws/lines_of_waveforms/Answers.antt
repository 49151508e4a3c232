use Rattle.wave_text.proofs.DeclaredLines.{wave_lines-each}
use Rattle.wave_text.proofs.laws.lines_of_waveforms.Goals as goal

pub returns : goal.returns
returns c = wave_lines-each
