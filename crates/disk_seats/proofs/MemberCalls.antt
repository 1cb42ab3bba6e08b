-- A ledger behind a member's header and behind its before-images.
use Rattle.std.proofs.Common.{◌≡◌, ◌≢◌, ℕ, ◌≤◌, IsTrue, List, [], ◌∷◌, ◌++◌, Some, slice_get, ◌⊎◌, sym, subst, refl, arith}
use Rattle.rdb_types.specs.declared.file.FileKind.TheVariants.{Root, Area, Ruj}
use Rattle.rdb_outside.specs.Disk.{View, Pending}
use Rattle.line_opening.specs.stable_lines.Slots.{ruj_file, named, Undo}
use Rattle.line_opening.specs.stable_lines.Progress.{Open}
use Rattle.line_opening.specs.stable_lines.Facts.{Facts}
use Rattle.line_opening.specs.line_moves.Calls.{OnlyWrites}
use Rattle.line_opening.proofs.of_line_moves.OnlyPut.{lines_beside}
use Rattle.line_seat.specs.Seats.{SeatFacts}
use Rattle.line_seat.proofs.StageStays.{beside_entry, beside_header}
use Rattle.disk_seats.specs.Ledgers.{Standing, resting, changing, broken, Ledger, progress_of, stands_as}
use Rattle.disk_seats.specs.Members.{MemberStands, LedgerFacts, IsLeftTo}
use Rattle.disk_seats.proofs.Standings.{not_changing, not_resting, apart_fewer}
use Rattle.disk_seats.proofs.Progresses.{shape_of, seat_base}
use Rattle.disk_seats.proofs.OthersStay.{leaves_named, leaves_closed, leaves_entry}
use Rattle.disk_seats.proofs.Assembled.{member_called, member_kept}
use Rattle.disk_seats.proofs.OwnSeat.{stands_so, seat_of, own_header, apart_more}

not_area : Ruj ≢ Area
not_area k = let bad : Ruj ≡ Area = k in cc

not_root : Ruj ≢ Root
not_root k = let bad : Ruj ≡ Root = k in cc

module _ (v w : View) (g : Ledger) (member : ℕ) (t : IsTrue v.tells) (was : LedgerFacts v g) where
  pub named_behind : (o : Open) → g.standing member ≡ changing [] 0 → g.base.going member ≡ Some o → OnlyWrites (ruj_file member) 0 v w → ((h : List ℕ) → Pending w (ruj_file member) 0 h → Pending v (ruj_file member) 0 h ⊎ (named h ≡ o.tsn.number))
      → Facts (Pending w) (progress_of g) → LedgerFacts w g
  named_behind o is going rest headers facts = member_kept v w (ruj_file member) 0 member g t rest not_root was facts (λ s i undo apart got. lines_beside v w (ruj_file member) 0 t not_area rest undo.key)
      (leaves_named v w g.base member o t going rest headers)
      (λ c there. beside_header v w g.base c.member member 0 t (λ same. not_changing v g member was [] 0 is c there (sym same)) rest refl o.tsn.number headers (λ tsn closed le. closed member o going))
      (subst (λ (s : Standing). MemberStands w g.base member s) (sym is) (record { transaction = o; seat = own_header v w g.base member o t rest (seat_of v g.base member o [] 0 going (stands_so v g was member (changing [] 0) is)) }))

  pub closed_behind : g.standing member ≡ resting → OnlyWrites (ruj_file member) 0 v w → ((h : List ℕ) → Pending w (ruj_file member) 0 h → Pending v (ruj_file member) 0 h ⊎ (named h ≡ 0))
      → Facts (Pending w) (progress_of g) → LedgerFacts w g
  closed_behind is rest headers facts = member_kept v w (ruj_file member) 0 member g t rest not_root was facts (λ s i undo apart got. lines_beside v w (ruj_file member) 0 t not_area rest undo.key)
      (leaves_closed v w g.base member t rest headers)
      (λ c there. beside_header v w g.base c.member member 0 t (λ same. not_resting v g member was is c there (sym same)) rest refl 0 headers (λ tsn closed le zero. omega (arith, le, zero)))
      (subst (λ (s : Standing). MemberStands w g.base member s) (sym is) (stands_so v g was member resting is))

  module _ (o : Open) (all : List Undo) (n slot : ℕ) (is : g.standing member ≡ changing all n) (going : g.base.going member ≡ Some o) (first : 1 ≤ slot) (rest : OnlyWrites (ruj_file member) slot v w) (facts : Facts (Pending w) (progress_of g)) where
    its : SeatFacts v g.base member o all n
    its = seat_of v g.base member o all n going (stands_so v g was member (changing all n) is)

    pub broken_behind : LedgerFacts w (stands_as member broken g)
    broken_behind = member_called v w (ruj_file member) slot member broken g t rest not_root was facts (λ s i u apart got. lines_beside v w (ruj_file member) slot t not_area rest u.key) (not_changing v g member was all n is)
        (leaves_entry v w g.base member slot t first rest)
        (λ c there. beside_entry v w g.base c.member member slot t (λ same. not_changing v g member was all n is c there (sym same)) rest first)
        (record { transaction = o; is_open = going; entries = its.none_stands })
        (apart_fewer g.standing member broken was.apart (λ i a got. absurd (nothing i a got)))
      where
        nothing : (i : ℕ) (a : Undo) → slice_get [] i ≡ Some a → ⊥
        nothing i a bad = cc

    pub journalled_behind : (undo : Undo) → IsLeftTo member undo.key g.standing → SeatFacts w (progress_of g) member o (all ++ undo ∷ []) n → LedgerFacts w (stands_as member (changing (all ++ undo ∷ []) n) g)
    journalled_behind undo left seat = member_called v w (ruj_file member) slot member (changing (all ++ undo ∷ []) n) g t rest not_root was facts (λ s i u apart got. lines_beside v w (ruj_file member) slot t not_area rest u.key) (not_changing v g member was all n is)
        (leaves_entry v w g.base member slot t first rest)
        (λ c there. beside_entry v w g.base c.member member slot t (λ same. not_changing v g member was all n is c there (sym same)) rest first)
        (record { transaction = o; seat = seat_base w (progress_of g) g.base g.commit (shape_of v g was) was.quiet member o (all ++ undo ∷ []) n seat })
        (apart_more g.standing member all n undo was.apart is left)
