use Rattle.frame_laws.proofs.Channels.{line-alone, lines-meet, lines-none, signal-silent}
use Rattle.frame_laws.proofs.laws.channels.Goals as goal

pub returns-clause-none : goal.returns-clause-none
returns-clause-none c list script row before = λ on. signal-silent list script before on row

pub returns-clause-silent : goal.returns-clause-silent
returns-clause-silent c list script row before = λ on. lines-none list script before on row

pub returns-clause-alone : goal.returns-clause-alone
returns-clause-alone c list script row before = λ on. line-alone list script before on row

pub returns-clause-noise : goal.returns-clause-noise
returns-clause-noise c list script row before = λ on two. (lines-meet list script before on row two).0

pub returns-clause-meet : goal.returns-clause-meet
returns-clause-meet c list script row before = λ on two. (lines-meet list script before on row two).1
