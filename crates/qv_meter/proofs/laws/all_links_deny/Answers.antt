use Rattle.qv_meter.proofs.Linking.{all-links}
use Rattle.qv_meter.proofs.laws.all_links_deny.Goals as goal

pub returns : goal.returns
returns _ = all-links
