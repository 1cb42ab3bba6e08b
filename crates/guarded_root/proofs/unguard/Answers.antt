use Rattle.std.proofs.Common.{IsTrue, sym, subst, refl, inl, arith}
use Rattle.rdb_outside.specs.Moments.{each_slot}
use Rattle.new_database.specs.Maker.{root_file}
use Rattle.guarded_root.specs.Guarded.{InOrEnd, PendingOrEnd, IsRootIn}
use Rattle.database_opening.proofs.Others.{file_on}
use Rattle.guarded_root.proofs.Sweeping.{kept_by_read, kept_by_write}
use Rattle.guarded_root.proofs.Stages.{begins, call, keeps_guarded, in_state, ending, in_or_end, pending_or_end, ended}
use Rattle.guarded_root.proofs.unguard.Goals as goal

pub returns-in_err-barrier-clause-any_moment : goal.returns-in_err-barrier-clause-any_moment
returns-in_err-barrier-clause-any_moment g c = λ state t guarded.
    let v = g.D.Disk.view in let old = v c.args.disk.now in
    let P = InOrEnd state old.content c.args.root.now in
    let first = begins P old t (λ image left. inl (in_state state old guarded image left)) in
    let second = call P old old (v c.barrier.new.self) c.barrier.result t first c.barrier.ensures.counts (λ image left. inl (in_state state (v c.barrier.new.self) (keeps_guarded state old (v c.barrier.new.self) (c.barrier.ensures.kept t) guarded) image left)) in
    second.leaves

pub returns-in_err-write-clause-any_moment : goal.returns-in_err-write-clause-any_moment
returns-in_err-write-clause-any_moment g c = λ state t guarded.
    let v = g.D.Disk.view in let old = v c.args.disk.now in
    let P = InOrEnd state old.content c.args.root.now in
    let first = begins P old t (λ image left. inl (in_state state old guarded image left)) in
    let second = call P old old (v c.barrier.new.self) c.barrier.result t first c.barrier.ensures.counts (λ image left. inl (in_state state (v c.barrier.new.self) (keeps_guarded state old (v c.barrier.new.self) (c.barrier.ensures.kept t) guarded) image left)) in
    let there : IsRootIn state (old.content root_file 0) = guarded (old.content root_file 0) (each_slot old old.content (g.met.D.Disk.content_left c.args.disk.now old.moment t (omega arith)) root_file 0) in
    let on_its_way = ending old.content c.put_root.new.slot (v c.barrier.new.self) (v c.write.new.self) (λ f i. (c.barrier.ensures.kept t).content f i) (c.in_ok-barrier.ensures.stable t) (c.write.ensures.pending second.tells) in
    let third = call P old (v c.barrier.new.self) (v c.write.new.self) c.write.result t second c.write.ensures.counts (in_or_end state old.content c.put_root.new.slot c.args.root.now (v c.write.new.self) c.put_root.ensures there on_its_way) in
    third.leaves

pub returns-in_err-barrier-2-clause-any_moment : goal.returns-in_err-barrier-2-clause-any_moment
returns-in_err-barrier-2-clause-any_moment g c = λ state t guarded.
    let v = g.D.Disk.view in let old = v c.args.disk.now in
    let P = InOrEnd state old.content c.args.root.now in
    let first = begins P old t (λ image left. inl (in_state state old guarded image left)) in
    let second = call P old old (v c.barrier.new.self) c.barrier.result t first c.barrier.ensures.counts (λ image left. inl (in_state state (v c.barrier.new.self) (keeps_guarded state old (v c.barrier.new.self) (c.barrier.ensures.kept t) guarded) image left)) in
    let there : IsRootIn state (old.content root_file 0) = guarded (old.content root_file 0) (each_slot old old.content (g.met.D.Disk.content_left c.args.disk.now old.moment t (omega arith)) root_file 0) in
    let on_its_way = ending old.content c.put_root.new.slot (v c.barrier.new.self) (v c.write.new.self) (λ f i. (c.barrier.ensures.kept t).content f i) (c.in_ok-barrier.ensures.stable t) (c.write.ensures.pending second.tells) in
    let third = call P old (v c.barrier.new.self) (v c.write.new.self) c.write.result t second c.write.ensures.counts (in_or_end state old.content c.put_root.new.slot c.args.root.now (v c.write.new.self) c.put_root.ensures there on_its_way) in
    let fourth = call P old (v c.write.new.self) (v c.barrier-2.new.self) c.barrier-2.result t third c.barrier-2.ensures.counts (in_or_end state old.content c.put_root.new.slot c.args.root.now (v c.barrier-2.new.self) c.put_root.ensures there (λ f i x p. on_its_way f i x ((c.barrier-2.ensures.kept third.tells).pending f i x p))) in
    fourth.leaves

pub returns-clause-ended : goal.returns-clause-ended
returns-clause-ended g c = λ t image left.
    let v = g.D.Disk.view in let old = v c.args.disk.now in
    let now = subst (λ b. IsTrue b) (sym c.barrier.ensures.counts.told) t in
    let later = subst (λ b. IsTrue b) (sym c.write.ensures.counts.told) now in
    ended old.content c.put_root.new.slot c.args.root.now old (v c.barrier.new.self) (v c.write.new.self) (v c.barrier-2.new.self) c.put_root.ensures (c.barrier.ensures.kept t) (λ f i. refl) (c.in_ok-write.ensures.written now) (c.barrier-2.ensures.kept later) (c.in_ok-barrier-2.ensures.stable later) image left

pub returns-clause-any_moment : goal.returns-clause-any_moment
returns-clause-any_moment g c = λ state t guarded.
    let v = g.D.Disk.view in let old = v c.args.disk.now in
    let P = InOrEnd state old.content c.args.root.now in
    let first = begins P old t (λ image left. inl (in_state state old guarded image left)) in
    let second = call P old old (v c.barrier.new.self) c.barrier.result t first c.barrier.ensures.counts (λ image left. inl (in_state state (v c.barrier.new.self) (keeps_guarded state old (v c.barrier.new.self) (c.barrier.ensures.kept t) guarded) image left)) in
    let there : IsRootIn state (old.content root_file 0) = guarded (old.content root_file 0) (each_slot old old.content (g.met.D.Disk.content_left c.args.disk.now old.moment t (omega arith)) root_file 0) in
    let on_its_way = ending old.content c.put_root.new.slot (v c.barrier.new.self) (v c.write.new.self) (λ f i. (c.barrier.ensures.kept t).content f i) (c.in_ok-barrier.ensures.stable t) (c.write.ensures.pending second.tells) in
    let third = call P old (v c.barrier.new.self) (v c.write.new.self) c.write.result t second c.write.ensures.counts (in_or_end state old.content c.put_root.new.slot c.args.root.now (v c.write.new.self) c.put_root.ensures there on_its_way) in
    let fourth = call P old (v c.write.new.self) (v c.barrier-2.new.self) c.barrier-2.result t third c.barrier-2.ensures.counts (in_or_end state old.content c.put_root.new.slot c.args.root.now (v c.barrier-2.new.self) c.put_root.ensures there (λ f i x p. on_its_way f i x ((c.barrier-2.ensures.kept third.tells).pending f i x p))) in
    fourth.leaves

pub returns-in_err-barrier-clause-others : goal.returns-in_err-barrier-clause-others
returns-in_err-barrier-clause-others g c = λ t file apart. let v = g.D.Disk.view in let old = v c.args.disk.now in let first = v c.barrier.new.self in
    kept_by_read old first c.barrier.result c.barrier.ensures.counts c.barrier.ensures.kept t file

pub returns-in_err-write-clause-others : goal.returns-in_err-write-clause-others
returns-in_err-write-clause-others g c = λ t file apart. let v = g.D.Disk.view in let old = v c.args.disk.now in let first = v c.barrier.new.self in
    let now = subst (λ b. IsTrue b) (sym c.barrier.ensures.counts.told) t in let second = v c.write.new.self in
    file_on old first second file (kept_by_read old first c.barrier.result c.barrier.ensures.counts c.barrier.ensures.kept t file)
    (kept_by_write root_file 0 c.put_root.new.slot first second c.write.result c.write.ensures.counts c.write.ensures.pending c.write.ensures.written c.write.ensures.failed now file apart)

pub returns-in_err-barrier-2-clause-others : goal.returns-in_err-barrier-2-clause-others
returns-in_err-barrier-2-clause-others g c = λ t file apart. let v = g.D.Disk.view in let old = v c.args.disk.now in let first = v c.barrier.new.self in
    let now = subst (λ b. IsTrue b) (sym c.barrier.ensures.counts.told) t in let second = v c.write.new.self in
    let third = v c.barrier-2.new.self in
    file_on old second third file (file_on old first second file (kept_by_read old first c.barrier.result c.barrier.ensures.counts c.barrier.ensures.kept t file)
    (kept_by_write root_file 0 c.put_root.new.slot first second c.write.result c.write.ensures.counts c.write.ensures.pending c.write.ensures.written c.write.ensures.failed now file apart))
    (kept_by_read second third c.barrier-2.result c.barrier-2.ensures.counts c.barrier-2.ensures.kept (subst (λ b. IsTrue b) (sym c.write.ensures.counts.told) now) file)

pub returns-clause-others : goal.returns-clause-others
returns-clause-others g c = λ t file apart. let v = g.D.Disk.view in let old = v c.args.disk.now in let first = v c.barrier.new.self in
    let now = subst (λ b. IsTrue b) (sym c.barrier.ensures.counts.told) t in let second = v c.write.new.self in
    let third = v c.barrier-2.new.self in
    file_on old second third file (file_on old first second file (kept_by_read old first c.barrier.result c.barrier.ensures.counts c.barrier.ensures.kept t file)
    (kept_by_write root_file 0 c.put_root.new.slot first second c.write.result c.write.ensures.counts c.write.ensures.pending c.write.ensures.written c.write.ensures.failed now file apart))
    (kept_by_read second third c.barrier-2.result c.barrier-2.ensures.counts c.barrier-2.ensures.kept (subst (λ b. IsTrue b) (sym c.write.ensures.counts.told) now) file)

pub returns-in_err-barrier-clause-slots : goal.returns-in_err-barrier-clause-slots
returns-in_err-barrier-clause-slots g c = λ t.
    let v = g.D.Disk.view in let old = v c.args.disk.now in
    let P = PendingOrEnd old c.args.root.now in
    let left_now = g.met.D.Disk.content_left c.args.disk.now old.moment t (omega arith) in
    let first = begins P old t (λ image left. inl (λ f i. each_slot old image left f i)) in
    let second = call P old old (v c.barrier.new.self) c.barrier.result t first c.barrier.ensures.counts (λ image left. inl (λ f i. (c.barrier.ensures.kept t).pending f i (image f i) (each_slot (v c.barrier.new.self) image left f i))) in
    second.leaves

pub returns-in_err-write-clause-slots : goal.returns-in_err-write-clause-slots
returns-in_err-write-clause-slots g c = λ t.
    let v = g.D.Disk.view in let old = v c.args.disk.now in
    let P = PendingOrEnd old c.args.root.now in
    let left_now = g.met.D.Disk.content_left c.args.disk.now old.moment t (omega arith) in
    let first = begins P old t (λ image left. inl (λ f i. each_slot old image left f i)) in
    let second = call P old old (v c.barrier.new.self) c.barrier.result t first c.barrier.ensures.counts (λ image left. inl (λ f i. (c.barrier.ensures.kept t).pending f i (image f i) (each_slot (v c.barrier.new.self) image left f i))) in
    let on_its_way = ending old.content c.put_root.new.slot (v c.barrier.new.self) (v c.write.new.self) (λ f i. (c.barrier.ensures.kept t).content f i) (c.in_ok-barrier.ensures.stable t) (c.write.ensures.pending second.tells) in
    let third = call P old (v c.barrier.new.self) (v c.write.new.self) c.write.result t second c.write.ensures.counts (pending_or_end old c.put_root.new.slot c.args.root.now (v c.write.new.self) c.put_root.ensures left_now on_its_way) in
    third.leaves

pub returns-in_err-barrier-2-clause-slots : goal.returns-in_err-barrier-2-clause-slots
returns-in_err-barrier-2-clause-slots g c = λ t.
    let v = g.D.Disk.view in let old = v c.args.disk.now in
    let P = PendingOrEnd old c.args.root.now in
    let left_now = g.met.D.Disk.content_left c.args.disk.now old.moment t (omega arith) in
    let first = begins P old t (λ image left. inl (λ f i. each_slot old image left f i)) in
    let second = call P old old (v c.barrier.new.self) c.barrier.result t first c.barrier.ensures.counts (λ image left. inl (λ f i. (c.barrier.ensures.kept t).pending f i (image f i) (each_slot (v c.barrier.new.self) image left f i))) in
    let on_its_way = ending old.content c.put_root.new.slot (v c.barrier.new.self) (v c.write.new.self) (λ f i. (c.barrier.ensures.kept t).content f i) (c.in_ok-barrier.ensures.stable t) (c.write.ensures.pending second.tells) in
    let third = call P old (v c.barrier.new.self) (v c.write.new.self) c.write.result t second c.write.ensures.counts (pending_or_end old c.put_root.new.slot c.args.root.now (v c.write.new.self) c.put_root.ensures left_now on_its_way) in
    let fourth = call P old (v c.write.new.self) (v c.barrier-2.new.self) c.barrier-2.result t third c.barrier-2.ensures.counts (pending_or_end old c.put_root.new.slot c.args.root.now (v c.barrier-2.new.self) c.put_root.ensures left_now (λ f i x p. on_its_way f i x ((c.barrier-2.ensures.kept third.tells).pending f i x p))) in
    fourth.leaves

pub returns-clause-slots : goal.returns-clause-slots
returns-clause-slots g c = λ t.
    let v = g.D.Disk.view in let old = v c.args.disk.now in
    let P = PendingOrEnd old c.args.root.now in
    let left_now = g.met.D.Disk.content_left c.args.disk.now old.moment t (omega arith) in
    let first = begins P old t (λ image left. inl (λ f i. each_slot old image left f i)) in
    let second = call P old old (v c.barrier.new.self) c.barrier.result t first c.barrier.ensures.counts (λ image left. inl (λ f i. (c.barrier.ensures.kept t).pending f i (image f i) (each_slot (v c.barrier.new.self) image left f i))) in
    let on_its_way = ending old.content c.put_root.new.slot (v c.barrier.new.self) (v c.write.new.self) (λ f i. (c.barrier.ensures.kept t).content f i) (c.in_ok-barrier.ensures.stable t) (c.write.ensures.pending second.tells) in
    let third = call P old (v c.barrier.new.self) (v c.write.new.self) c.write.result t second c.write.ensures.counts (pending_or_end old c.put_root.new.slot c.args.root.now (v c.write.new.self) c.put_root.ensures left_now on_its_way) in
    let fourth = call P old (v c.write.new.self) (v c.barrier-2.new.self) c.barrier-2.result t third c.barrier-2.ensures.counts (pending_or_end old c.put_root.new.slot c.args.root.now (v c.barrier-2.new.self) c.put_root.ensures left_now (λ f i x p. on_its_way f i x ((c.barrier-2.ensures.kept third.tells).pending f i x p))) in
    fourth.leaves
