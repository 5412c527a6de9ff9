use Rattle.nu_base.proofs.Front.{behind_front}
use Rattle.nu_base.proofs.host.HostFilesFiles.fetch.Goals as goal

pub returns-in-Ok-clause-bytes : goal.returns-in-Ok-clause-bytes
returns-in-Ok-clause-bytes g c =
    behind_front c.args.into.now c.read_front.new.into c.in-Ok.count c.args.limit c.in-Ok.ensures.front c.in-Ok.ensures.len c.if-count-limit.true
