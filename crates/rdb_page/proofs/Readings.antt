-- The bytes of a page determine its head and its lines.
use Rattle.std.proofs.Common.{◌≡◌, ◌∙◌, sym, ℕ, List, length}
use Rattle.rdb_types.specs.declared.keys.Line.{Line}
use Rattle.rdb_page.specs.declared.head.Head.{Head}
use Rattle.rdb_page.specs.Page.{IsHead}
use Rattle.rdb_page.specs.Lines.{IsLine}
use Rattle.rdb_page.proofs.States.{one_state}

pub one_head : (page : List ℕ) (a b : Head) → IsHead page a → IsHead page b → a ≡ b
one_head page a b x y =
    let p = x.fields in let q = y.fields in
    let number : a.page ≡ b.page = cc in
    let owner : a.owner ≡ b.owner = cc in
    let class : a.class ≡ b.class = cc in
    λ i. record { page = number i; owner = owner i; class = class i }

pub one_line : (page : List ℕ) (class line : ℕ) (a b : Line) → IsLine page class line a → IsLine page class line b → a ≡ b
one_line page class line a b x y =
    let p = x.fields in let q = y.fields in
    let state : a.state ≡ b.state = one_state a.state b.state (sym p.0 ∙ q.0) in
    let size : length a.image ≡ length b.image = cc in
    let tsn : a.tsn.number ≡ b.tsn.number = cc in
    let chain : a.chain ≡ b.chain = cc in
    let image : a.image ≡ b.image = cc in
    λ i. record { state = state i; tsn = record { number = tsn i }; chain = chain i; image = image i }
