-- Before-images of a member are put back.
use Rattle.std.proofs.Common.{◌≡◌, ◌≢◌, ℕ, ◌+◌, ◌≤◌, IsTrue, List, Result, Ok, Err, IfOk, Some, slice_get, length, inl, ⊎_elim, ap, sym, subst, ◌∙◌, refl, arith}
use Rattle.rdb_types.specs.declared.file.FileId.{FileId}
use Rattle.rdb_types.specs.declared.file.FileKind.TheVariants.{Area, Aij}
use Rattle.rdb_types.specs.declared.keys.Dbkey.{Dbkey}
use Rattle.rdb_outside.specs.Disk.{View, Pending}
use Rattle.area_files.specs.Areas.{IsDataPage}
use Rattle.journal_scan.specs.Standing.{what_stands}
use Rattle.new_database.specs.Maker.{aij_file}
use Rattle.line_opening.specs.stable_lines.Slots.{area_file, line_at, Undo}
use Rattle.line_opening.specs.stable_lines.Progress.{Open, Flight}
use Rattle.line_opening.specs.stable_lines.Facts.{Facts}
use Rattle.line_opening.proofs.of_stable_lines.Turns.{some_same}
use Rattle.line_opening.specs.line_moves.Calls.{OnlyWrites}
use Rattle.line_opening.specs.line_moves.Lines.{ArePut}
use Rattle.line_opening.specs.Undoing.{AreUndone, MayUndo, PutsBack}
use Rattle.line_seat.specs.declared.commit.CommitStage.{CommitStage}
use Rattle.line_seat.specs.declared.commit.CommitStage.TheVariants.{Changing, Imaging, Gathering, Sealing, Landing, Committed}
use Rattle.line_seat.specs.Groups.{AreImaged}
use Rattle.line_seat.specs.Stages.{IsDone}
use Rattle.disk_seats.specs.Ledgers.{Standing, undoing, entries_of, Commit, Ledger, progress_with, progress_of, set_standing, stands_as}
use Rattle.disk_seats.specs.Members.{IsPuttingBack, MemberStands, CommitStands, LedgerFacts}
use Rattle.disk_seats.proofs.Standings.{within, standing_is, standing_there, apart_fewer, not_undoing}
use Rattle.disk_seats.proofs.Progresses.{same_going, same_limits, not_flying}
use Rattle.disk_seats.proofs.OthersStay.{member_stays, leaves_aside, used_stays}
use Rattle.disk_seats.proofs.Assembled.{assembled}
use Rattle.disk_seats.proofs.OwnSeat.{stands_so}
use Rattle.disk_seats.proofs.HeldUp.{IsOfCommit, not_ruj, not_root, may_again, entered_again}

pub if_both : {T E : Type 0} (P Q R : T → Type 0) (result : Result T E) → ((x : T) → P x → Q x → R x) → IfOk result P → IfOk result Q → IfOk result R
if_both P Q R (Ok x) to p q = to x p q
if_both P Q R (Err e) to p q = p

module _ (v : View) (g : Ledger) (member : ℕ) (o : Open) (all : List Undo) (left : ℕ) (was : LedgerFacts v g) (is : g.standing member ≡ undoing all left) (going : g.base.going member ≡ Some o) where
  its : IsPuttingBack v g.base member all left
  its = stands_so v g was member (undoing all left) is

  pub left_inside : left ≤ length all
  left_inside = its.within

  pub own_entries : o.entries ≡ all
  own_entries = ap (λ (p : Open). p.entries) (some_same o its.transaction (sym going ∙ its.is_open)) ∙ its.entries

  pub own_undone : AreUndone v.content o left
  own_undone = subst (λ (p : Open). AreUndone v.content p left) (some_same its.transaction o (sym its.is_open ∙ going)) its.undone

  pub may_undo : (pages : ℕ) → pages ≡ g.base.limits.pages → MayUndo (Pending v) (progress_of g) member o left pages
  may_undo pages limit = record {
    facts = was.facts;
    is_open = same_going v g was member ∙ going;
    within = let inside = its.within in let long = ap (λ (l : List Undo). length l) own_entries in omega (arith, inside, long);
    limit = limit ∙ ap (λ l. l.pages) (sym (same_limits v g was));
    not_flying = not_flying v g was member (not_undoing v g member was all left is);
  }

  module _ (w : View) (n slot : ℕ) (t : IsTrue v.tells) (plain : IsDataPage (slot + 1)) (rest : OnlyWrites (area_file n) slot v w) (facts : Facts (Pending w) (progress_of g)) (back : PutsBack o v.content w.content) where
    of : IsOfCommit (area_file n) slot
    of = inl (n, refl, plain)

    -- the lines of others are as they were
    others_same : (s i : ℕ) (undo : Undo) → s ≢ member → slice_get (entries_of (g.standing s)) i ≡ Some undo → line_at w.content undo.key ≡ line_at v.content undo.key
    others_same s i undo apart got = ⊎_elim
        (λ (same : line_at w.content undo.key ≡ line_at v.content undo.key). same)
        (λ b.
        let here = ap (λ (st : Standing). slice_get (entries_of st) b.index) is ∙ (ap (λ (l : List Undo). slice_get l b.index) (sym own_entries) ∙ b.is) in
        absurd (was.apart member s b.index i b.undo undo (λ same. apart (sym same)) here got (sym b.key_is)))
        (back undo.key)

    module _ (c : Commit) (commits : g.commit ≡ Some c) where
      old : CommitStands v g.base g.standing c
      old = was.commit c commits

      off : c.member ≢ member
      off = not_undoing v g member was all left is c commits

      put_same : (k : ℕ) → ArePut v.content c.lines k → ArePut w.content c.lines k
      put_same k put i line less got =
          let of_it = old.of_entries i line got in
          let there = ap (λ (st : Standing). slice_get (entries_of st) of_it.1) old.its ∙ of_it.3 in
          subst (λ (key : Dbkey). line_at w.content key ≡ line_at v.content key) of_it.4 (others_same c.member of_it.1 of_it.2 off there) ∙ put i line less got

      same_slot : (i : ℕ) → w.content aij_file i ≡ v.content aij_file i
      same_slot i = rest.content t aij_file i (λ same at. let bad : Aij ≡ Area = ap (λ (f : FileId). f.kind) same in cc)

      imaged_same : (f : Flight) (k : ℕ) → AreImaged v.content g.base f k → AreImaged w.content g.base f k
      imaged_same f k imaged i what less got = ap what_stands (same_slot _) ∙ imaged i what less got

      done_same : (stage : CommitStage) → IsDone stage v g.base c.place c.lines c.flight → IsDone stage w g.base c.place c.lines c.flight
      done_same (Changing at) done = (may_again v w (area_file n) slot t rest of g.base c.lines done.0, entered_again v w (area_file n) slot t rest of c.lines done.1, put_same at done.2)
      done_same (Imaging at) done = (put_same (length c.lines) done.0, imaged_same c.flight at done.1)
      done_same Gathering done = (put_same (length c.lines) done.0, imaged_same c.flight (length c.lines) done.1)
      done_same Sealing done = done
      done_same Landing done = ap what_stands (same_slot _) ∙ done
      done_same Committed done = done

      commit_same : (st : Standing) → CommitStands w g.base (set_standing member st g.standing) c
      commit_same st = record {
        its = standing_there member st g.standing c.member off ∙ old.its;
        under_way = old.under_way;
        is = old.is;
        of_entries = old.of_entries;
        facts = record { facts = subst (λ k. Facts (Pending w) (progress_with k g.base)) commits facts; done = done_same c.stage old.facts.done };
      }

    -- so many are left
    pub undone_behind : (rest_left : ℕ) → rest_left ≤ length all → AreUndone w.content o rest_left → LedgerFacts w (stands_as member (undoing all rest_left) g)
    undone_behind rest_left inside undone = assembled v w (area_file n) slot g (set_standing member (undoing all rest_left) g.standing) t rest was facts
        (used_stays v w (area_file n) slot t (not_root (area_file n) slot of) rest was.used)
        (λ m. ⊎_elim
        (λ here. subst (λ (s : Standing). MemberStands w g.base m s) (sym here.1) (subst (λ (k : ℕ). MemberStands w g.base k (undoing all rest_left)) (sym here.0) own))
        (λ away. subst (λ (s : Standing). MemberStands w g.base m s) (sym away.1) (member_stays v w g.base member (leaves_aside v w g.base member (area_file n) slot t (not_ruj (area_file n) slot of) rest) m away.0 (g.standing m) (λ i undo got. others_same m i undo away.0 got) (was.member m)))
        (standing_is member (undoing all rest_left) g.standing m))
        (λ c commits. commit_same c commits (undoing all rest_left))
        (apart_fewer g.standing member (undoing all rest_left) was.apart (λ i a got. ap (λ (s : Standing). slice_get (entries_of s) i) is ∙ got))
      where
        own : IsPuttingBack w g.base member all rest_left
        own = record { transaction = o; is_open = going; entries = own_entries; within = inside; undone = undone }

    -- all of them are left, as far as is known
    pub held_behind : LedgerFacts w (stands_as member (undoing all (length all)) g)
    held_behind = undone_behind (length all) (omega arith) (λ i undo le got. absurd (past i undo le got))
      where
        past : (i : ℕ) (undo : Undo) → length all ≤ i → slice_get o.entries i ≡ Some undo → ⊥
        past i undo le got = let less = within o.entries i undo got in let long = ap (λ (l : List Undo). length l) own_entries in omega (arith, le, less, long)
