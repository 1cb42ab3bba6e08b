use Rattle.std.proofs.Common.{refl}
use Rattle.relation_rows.specs.declared.stored.StoredRelation.{StoredRelation}
use Rattle.sound_lines.specs.Contents.{stored}
use Rattle.areas_at_rest.proofs.Defined.{relation_owner}
use Rattle.rmu_verify.proofs.Found.{faults_alike}
use Rattle.rmu_verify.proofs.rows.verify_relation.Goals as goal

pub returns-in-Ok-clause-found : goal.returns-in-Ok-clause-found
returns-in-Ok-clause-found g c = λ t left so groups lines lays stands.
    let agrees = c.in_ok-known.ensures.agrees 2 (relation_owner c.args.relation.now.area c.requires) t left so groups lines lays stands in
    let found = c.in-Ok.ensures lines stands.in_order agrees in
    let read : StoredRelation = record { area = c.args.relation.now.area; version = c.args.version; fields = c.as_slice.result } in
    (found.0, found.1, faults_alike read (stored c.args.version c.args.relation.now) lines found.0 refl refl c.as_slice.ensures found.2)
