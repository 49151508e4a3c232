use Rattle.std.proofs.Common.{◌≡◌, ◌<◌, ◌^◌, length, arith}
use Rattle.whole_campaign.proofs.Readable.{result-readable}
use Rattle.whole_campaign.proofs.whole.read_campaign.Goals as goal

pub returns-clause-readable : goal.returns-clause-readable
returns-clause-readable c = result-readable c.args.text.now c.read_text.result (omega arith) c.read_text.ensures
