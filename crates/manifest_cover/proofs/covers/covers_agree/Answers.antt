use Rattle.manifest_cover.proofs.Covering.{cover_told, cover_back, formed_told, formed_back}
use Rattle.manifest_cover.proofs.covers.covers_agree.Goals as goal

pub returns-clause-told : goal.returns-clause-told
returns-clause-told c = cover_told

pub returns-clause-back : goal.returns-clause-back
returns-clause-back c = cover_back

pub returns-clause-formed_told : goal.returns-clause-formed_told
returns-clause-formed_told c = formed_told

pub returns-clause-formed_back : goal.returns-clause-formed_back
returns-clause-formed_back c = formed_back
