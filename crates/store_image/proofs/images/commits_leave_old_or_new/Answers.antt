use Rattle.store_image.proofs.Keeping.{by_store, for_after, for_before}
use Rattle.store_image.proofs.images.commits_leave_old_or_new.Goals as goal

pub returns-clause-old : goal.returns-clause-old
returns-clause-old c = for_before

pub returns-clause-new : goal.returns-clause-new
returns-clause-new c = for_after

pub returns-clause-by_store : goal.returns-clause-by_store
returns-clause-by_store c = by_store
