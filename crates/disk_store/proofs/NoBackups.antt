-- No call on the store's memory and its own files begins a backup.
use Rattle.std.proofs.Common.{◌≡◌, ℕ, List, [], Option, Some, None, refl, sym, ap, ◌∙◌}
use Rattle.std.specs.Prelude.{slice_get}
use Rattle.line_view.specs.declared.writes.Write.{Write}
use Rattle.line_view.specs.Knowledge.{Lines}
use Rattle.line_store.specs.Seats.{Seat, copied_at, begun_by, begun}
use Rattle.line_store.specs.Sights.{bare, copier_behind}
use Rattle.line_store.proofs.Begun.{copied-as, copier-none}
use Rattle.disk_store.specs.declared.member.Member.{Member}
use Rattle.disk_store.specs.declared.member.MemberStage.{MemberStage}
use Rattle.disk_store.specs.declared.member.MemberStage.TheVariants as stage
use Rattle.disk_store.specs.Seats.{seat_with, stand_of}

pub copies-none : (st : MemberStage) (ws : List Write) (start : Lines) → copied_at (seat_with st ws start) ≡ None
copies-none stage.Outside ws start = refl
copies-none (stage.Beginning ceiling) ws start = refl
copies-none stage.Writing ws start = refl
copies-none stage.Changing ws start = refl
copies-none stage.Broken ws start = refl
copies-none stage.Prepared ws start = refl
copies-none (stage.Committing turn) ws start = refl
copies-none stage.RollingBack ws start = refl
copies-none stage.Closing ws start = refl
copies-none stage.Reading ws start = refl
copies-none (stage.Dead commits left) ws start = refl

pub copies-nobody : (x : Option Member) → copied_at (stand_of x) ≡ None
copies-nobody None = refl
copies-nobody (Some m) = copies-none m.stage [] []

-- who stands behind a call as a member does began none
pub begins-none : (before : Seat) (x : Option Member) (there : Seat) → bare (stand_of x) ≡ bare there → begun before there ≡ None
begins-none before x there same = ap (begun_by (copied_at before)) (sym (copied-as (stand_of x) there same) ∙ copies-nobody x)

pub copier-stays : (before : Seat) (x : Option Member) (there : Seat) (s number : ℕ) → bare (stand_of x) ≡ bare there → None ≡ copier_behind s (begun before there) (λ (n : ℕ). None) number
copier-stays before x there s number same = sym (copier-none s (begun before there) (λ (n : ℕ). None) number (begins-none before x there same))
