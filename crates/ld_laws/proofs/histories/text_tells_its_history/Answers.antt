use Rattle.ld_laws.proofs.TextsTell.{text_tells_its_history}
use Rattle.ld_laws.proofs.histories.text_tells_its_history.Goals as goal

pub returns : goal.returns
returns c = text_tells_its_history
