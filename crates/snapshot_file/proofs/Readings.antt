-- The bytes of a slot determine its entry.
use Rattle.std.proofs.Common.{◌≡◌, ℕ, List, length}
use Rattle.rdb_page.proofs.States.{one_state}
use Rattle.snapshot_file.specs.declared.entry.SnapEntry.{SnapEntry}
use Rattle.snapshot_file.specs.Entry.{IsEntry}

pub one_entry : (slot : List ℕ) (a b : SnapEntry) → IsEntry slot a → IsEntry slot b → a ≡ b
one_entry slot a b x y =
    let p = x.fields in let q = y.fields in
    let area : a.key.area ≡ b.key.area = cc in
    let page : a.key.page ≡ b.key.page = cc in
    let line : a.key.line ≡ b.key.line = cc in
    let tsn : a.tsn.number ≡ b.tsn.number = cc in
    let state : a.state ≡ b.state = one_state a.state b.state cc in
    let size : length a.image ≡ length b.image = cc in
    let image : a.image ≡ b.image = cc in
    let pusher : a.pusher.number ≡ b.pusher.number = cc in
    let previous : a.previous ≡ b.previous = cc in
    λ i. record {
      key = record { area = area i; page = page i; line = line i };
      tsn = record { number = tsn i };
      state = state i;
      image = image i;
      pusher = record { number = pusher i };
      previous = previous i;
    }
