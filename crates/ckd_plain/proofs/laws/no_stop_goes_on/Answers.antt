use Rattle.ckd_plain.proofs.Histories.{HasNoStop-push}
use Rattle.ckd_plain.proofs.laws.no_stop_goes_on.Goals as goal

pub returns : goal.returns
returns c = HasNoStop-push
