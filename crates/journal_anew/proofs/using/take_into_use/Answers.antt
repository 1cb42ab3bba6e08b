use Rattle.std.proofs.Common.{rules, ◌+◌, inl, refl, arith}
use Rattle.rdb_outside.specs.Moments.{weaker}
use Rattle.line_moves.proofs.Runs.{still_tells}
use Rattle.line_opening.proofs.Standing.{stands_now}
use Rattle.stable_lines.specs.Facts.{StandsAs}
use Rattle.stable_lines.specs.Progress.{begun_anew, settled}
use Rattle.journal_anew.specs.Anew.{StandsInUse}
use Rattle.database_opening.specs.Start.{beginning_with}
use Rattle.database_opening.proofs.Others.{file_unused}
use Rattle.journal_anew.proofs.Used.{may_begin, start_state, begun_in_use, unused_is, used_is, begun_leaves, root_leaves, used_leaves, used_facts, used_closed, in_use, file_root, file_used}
use Rattle.journal_anew.proofs.using.take_into_use.Goals as goal

pub returns-then-start-ne3-clause-stands : goal.returns-then-start-ne3-clause-stands
returns-then-start-ne3-clause-stands g c = let old = g.D.Disk.view c.args.disk.now in λ t classes lines journal begins.
    let now = beginning_with classes lines journal c.args.start in
    weaker old old (StandsAs now) (StandsInUse classes lines journal c.args.start.root) (start_state classes lines journal c.args.start) (stands_now old now begins.facts)

pub returns-then-start-ne3-clause-others : goal.returns-then-start-ne3-clause-others
returns-then-start-ne3-clause-others g c = λ file apart t. file_unused (g.D.Disk.view c.args.disk.now) t file

pub returns-then-start-clause-stands : goal.returns-then-start-clause-stands
returns-then-start-clause-stands g c = let old = g.D.Disk.view c.args.disk.now in λ t classes lines journal begins.
    let now = beginning_with classes lines journal c.args.start in
    weaker old old (StandsAs now) (StandsInUse classes lines journal c.args.start.root) (start_state classes lines journal c.args.start) (stands_now old now begins.facts)

pub returns-then-start-clause-others : goal.returns-then-start-clause-others
returns-then-start-clause-others g c = λ file apart t. file_unused (g.D.Disk.view c.args.disk.now) t file

pub returns-then-start-ne3-clause-used : goal.returns-then-start-ne3-clause-used
returns-then-start-ne3-clause-used g c = λ t classes lines journal begins. record { its = journal; start = begins; since = inl refl }

pub write_root-requires : goal.write_root-requires
write_root-requires g c = let is = c.requires.root in
    record {
      allowed = record { format = is.format; state = (omega arith, omega arith); limits = is.limits; ceiling = is.ceiling; applied = is.applied };
      whole = refl;
    }

pub returns-in_err-begin_anew-clause-stands : goal.returns-in_err-begin_anew-clause-stands
returns-in_err-begin_anew-clause-stands g c = let v = g.D.Disk.view in let old = v c.args.disk.now in let start = c.args.start in
    λ t classes lines journal begins.
    let anew = begun_in_use classes lines journal start (search rules) begins.next.numbered in
    begun_leaves classes lines journal start (start.next.number + 1) anew old (v c.begin_anew.new.disk) (c.begin_anew.ensures.stands t (beginning_with classes lines journal start) (may_begin classes lines journal start old begins))

pub returns-in_err-begin_anew-clause-others : goal.returns-in_err-begin_anew-clause-others
returns-in_err-begin_anew-clause-others g c = λ file apart t. c.begin_anew.ensures.others file apart.journal t

pub returns-in_err-write_root-clause-stands : goal.returns-in_err-write_root-clause-stands
returns-in_err-write_root-clause-stands g c = let v = g.D.Disk.view in let old = v c.args.disk.now in let begun = v c.begin_anew.new.disk in let start = c.args.start in
    λ t classes lines journal begins.
    let anew = begun_in_use classes lines journal start (search rules) begins.next.numbered in
    let now = beginning_with classes lines journal start in let first = start.next.number + 1 in
    let may = may_begin classes lines journal start old begins in
    let told = still_tells old begun c.begin_anew.ensures.told t in
    root_leaves classes lines journal start first anew old begun (v c.write_root.new.disk) (c.begin_anew.ensures.stands t now may) c.write_root.ensures.writes told (c.in_ok-begin_anew.ensures.begun t now may)
    (λ facts. c.write_root.ensures.keeps told (settled (begun_anew first now)) facts refl c.requires.ceiling)

pub returns-in_err-write_root-clause-others : goal.returns-in_err-write_root-clause-others
returns-in_err-write_root-clause-others g c = let v = g.D.Disk.view in let old = v c.args.disk.now in let begun = v c.begin_anew.new.disk in
    λ file apart t. file_root file apart old begun (v c.write_root.new.disk) (c.begin_anew.ensures.others file apart.journal t) c.write_root.ensures.writes (still_tells old begun c.begin_anew.ensures.told t)

pub returns-in_err-make_stable-clause-stands : goal.returns-in_err-make_stable-clause-stands
returns-in_err-make_stable-clause-stands g c = let v = g.D.Disk.view in let old = v c.args.disk.now in let begun = v c.begin_anew.new.disk in let start = c.args.start in
    λ t classes lines journal begins.
    let anew = begun_in_use classes lines journal start (search rules) begins.next.numbered in
    let now = beginning_with classes lines journal start in let first = start.next.number + 1 in
    let may = may_begin classes lines journal start old begins in
    let told = still_tells old begun c.begin_anew.ensures.told t in
    used_leaves classes lines journal start first anew old begun (v c.write_root.new.disk) (c.begin_anew.ensures.stands t now may) c.write_root.ensures.writes told (c.in_ok-begin_anew.ensures.begun t now may)
    (λ facts. c.write_root.ensures.keeps told (settled (begun_anew first now)) facts refl c.requires.ceiling) (v c.make_stable.new.disk) c.make_stable.ensures.reads

pub returns-in_err-make_stable-clause-others : goal.returns-in_err-make_stable-clause-others
returns-in_err-make_stable-clause-others g c = let v = g.D.Disk.view in let old = v c.args.disk.now in let begun = v c.begin_anew.new.disk in
    λ file apart t. file_used file apart old begun (v c.write_root.new.disk) (c.begin_anew.ensures.others file apart.journal t) c.write_root.ensures.writes (still_tells old begun c.begin_anew.ensures.told t) (v c.make_stable.new.disk) c.make_stable.ensures.reads

pub returns-clause-stands : goal.returns-clause-stands
returns-clause-stands g c = let v = g.D.Disk.view in let old = v c.args.disk.now in let begun = v c.begin_anew.new.disk in let start = c.args.start in
    λ t classes lines journal begins.
    let anew = begun_in_use classes lines journal start (search rules) begins.next.numbered in
    let now = beginning_with classes lines journal start in let first = start.next.number + 1 in
    let may = may_begin classes lines journal start old begins in
    let told = still_tells old begun c.begin_anew.ensures.told t in
    used_leaves classes lines journal start first anew old begun (v c.write_root.new.disk) (c.begin_anew.ensures.stands t now may) c.write_root.ensures.writes told (c.in_ok-begin_anew.ensures.begun t now may)
    (λ facts. c.write_root.ensures.keeps told (settled (begun_anew first now)) facts refl c.requires.ceiling) (v c.make_stable.new.disk) c.make_stable.ensures.reads

pub returns-clause-others : goal.returns-clause-others
returns-clause-others g c = let v = g.D.Disk.view in let old = v c.args.disk.now in let begun = v c.begin_anew.new.disk in
    λ file apart t. file_used file apart old begun (v c.write_root.new.disk) (c.begin_anew.ensures.others file apart.journal t) c.write_root.ensures.writes (still_tells old begun c.begin_anew.ensures.told t) (v c.make_stable.new.disk) c.make_stable.ensures.reads

pub returns-clause-used : goal.returns-clause-used
returns-clause-used g c = let v = g.D.Disk.view in let old = v c.args.disk.now in let begun = v c.begin_anew.new.disk in let new = v c.make_stable.new.disk in let start = c.args.start in
    λ t classes lines journal begins.
    let now = beginning_with classes lines journal start in let first = start.next.number + 1 in
    let anew = begun_in_use classes lines journal start (search rules) begins.next.numbered in
    let may = may_begin classes lines journal start old begins in
    let told = still_tells old begun c.begin_anew.ensures.told t in
    let leaves = c.begin_anew.ensures.stands t now may in
    let facts = c.in_ok-begin_anew.ensures.begun t now may in
    in_use classes lines journal start _ old new begins refl refl refl refl
    (used_facts classes lines journal start first anew old begun (v c.write_root.new.disk) leaves c.write_root.ensures.writes told facts (λ was. c.write_root.ensures.keeps told (settled (begun_anew first now)) was refl c.requires.ceiling) new c.make_stable.ensures.reads)
    (used_closed classes lines journal start first anew old begun (v c.write_root.new.disk) leaves c.write_root.ensures.writes told facts (λ was. c.write_root.ensures.keeps told (settled (begun_anew first now)) was refl c.requires.ceiling) new c.make_stable.ensures.reads (c.begin_anew.ensures.closed t begins.closed))

pub returns-then-start-ne3-clause-is : goal.returns-then-start-ne3-clause-is
returns-then-start-ne3-clause-is g c = unused_is c.args.start (search rules)

pub returns-clause-is : goal.returns-clause-is
returns-clause-is g c = used_is c.args.start (search rules)
