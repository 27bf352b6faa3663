use Rattle.sr_site.proofs.Others.{rests}
use Rattle.sr_site.proofs.laws.calls_on_one_file_leave_the_others.Goals as goal

pub returns : goal.returns
returns c f calls before now done on made = rests f before calls now done on made
