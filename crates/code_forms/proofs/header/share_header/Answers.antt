use Rattle.std.proofs.Common.{rules}
use Rattle.code_forms.proofs.header.share_header.Goals as goal

pub returns-clause-fits : goal.returns-clause-fits
returns-clause-fits c = record { scope = c.in_ok-share_text.ensures.fits; params = c.in_ok-share_params.ensures.fits; line = search rules }
