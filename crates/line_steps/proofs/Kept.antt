-- One step of a session keeps what is true of all of them.
use Rattle.std.proofs.Common.{◌≡◌, ◌≤◌, ℕ, zero, suc, ◌++◌, ◌∷◌, [], ◌==◌, true, false, List, refl, ◌∙◌, sym, ap, subst, arith, Some, slice_get, slice_set, ◌⊎◌, inl, inr}
use Rattle.rdo_ast.specs.Tree.{Uttered}
use Rattle.lock_needs.specs.declared.need.Need.{Need}
use Rattle.line_view.specs.Knowledge.{Lines, IsInOrder}
use Rattle.line_view.specs.Writes.{laid_all}
use Rattle.rdo_ast.specs.declared.reply.Standing.{Standing}
use Rattle.rdb_account.specs.Events.{Event}
use Rattle.rdb_account.specs.Places.{Opening, Place, Line, Due, nothing, commit_reply, rollback_reply, rolls_back, place, place_from, start}
use Rattle.rdb_account.specs.Lawful.{got_of}
use Rattle.rdb_account.specs.Legal.{is_free, MayFollow}
use Rattle.rdb_account.proofs.Growth.{legal-grown, place-grown, follow-grown}
use Rattle.line_history.specs.kept_apart.Alike.{AreAlike}
use Rattle.line_history.proofs.of_kept_apart.Alike.{alike-refl, alike-trans, alike-laid-all, alike-agrees}
use Rattle.line_history.specs.session_jobs.Records.{Model, IsOrderly}
use Rattle.line_history.specs.Transactions.{IsWriting, IsReading}
use Rattle.line_history.proofs.Transactions.{holds-beside}
use Rattle.line_steps.specs.Members.{State, outside, writing, reading, ended, fallen, recovered, Member, member}
use Rattle.lock_ties.specs.Ties.{needs_at, AskForOne}
use Rattle.lock_ties.proofs.Single.{legal-one, place-one}
use Rattle.line_steps.specs.Right.{Desk, Ground, StandsAs, Stands, IsFit, AreRight}
use Rattle.line_steps.specs.Steps.{AreOf, Found, Here, Steps}
use Rattle.line_steps.proofs.Frame.{Same, place-same}

module _ (M : Model) (orderly : IsOrderly M) where
  -- ---- one session, as another steps

  writing-alike : (word : List ℕ) (got : List Need) (now then : Lines) (lines : List Line) (standing : Standing) (d : Desk) → IsInOrder now → IsInOrder then → AreAlike got now then →
      IsWriting M word got now lines d.writes standing d.known → IsWriting M word got then lines d.writes standing d.known
  writing-alike word got now then lines standing d on oth alike h = record {
    holds = holds-beside M orderly word got now then lines d.writes standing alike h.holds;
    own = h.own;
    guarded = h.guarded;
    agrees = alike-agrees got d.known (laid_all d.writes now) (laid_all d.writes then) (alike-laid-all got d.writes now then on oth alike) h.guarded h.agrees;
  }

  -- it needs its transaction alone
  pub stands-on : (o : Opening) (p q : Place) (g h : Ground) (t : ℕ) (left : List Uttered) (x : State) → q.transaction t ≡ p.transaction t → h.desk t ≡ g.desk t → IsInOrder g.now → IsInOrder h.now → AreAlike (needs_at p t) g.now h.now →
      StandsAs M o p g t left x → StandsAs M o q h t left x
  stands-on o p q g h t left outside same desk on oth alike k = same ∙ k
  stands-on o p q g h t left ended same desk on oth alike k = (same ∙ k.0, k.1)
  stands-on o p q g h t left (writing standing under) same desk on oth alike k = record {
    transaction = k.transaction;
    is_open = same ∙ k.is_open;
    writes = k.writes;
    spoken = k.spoken;
    remains = k.remains;
    is = subst (λ (d : Desk). IsWriting M o.word k.transaction.got h.now k.transaction.lines d.writes standing d.known) (sym desk)
        (writing-alike o.word k.transaction.got g.now h.now k.transaction.lines standing (g.desk t) on oth (subst (λ x. AreAlike (got_of x) g.now h.now) k.is_open alike) k.is);
  }
  stands-on o p q g h t left recovered same desk on oth alike k = same ∙ k
  stands-on o p q g h t left (fallen x) same desk on oth alike k = stands-on o p q g h t left x same desk on oth alike k
  stands-on o p q g h t left (reading standing under) same desk on oth alike k = record {
    transaction = k.transaction;
    is_open = same ∙ k.is_open;
    reads = k.reads;
    spoken = k.spoken;
    has_standing = k.has_standing;
    is = subst (λ (d : Desk). IsReading M d.start k.transaction.base d.known) (sym desk) k.is;
  }

  carried : (o : Opening) (p q : Place) (g h : Ground) (t : ℕ) (m : Member) → Same p q t → h.desk t ≡ g.desk t → IsInOrder g.now → IsInOrder h.now → AreAlike (needs_at p t) g.now h.now →
      Stands M o p g t m → Stands M o q h t m
  carried o p q g h t m same desk on oth alike k = record {
    answered = k.answered;
    script = k.script;
    total = k.total;
    count = same.said ∙ k.count;
    lives = same.life ∙ k.lives;
    state = stands-on o p q g h t m.left m.state same.transaction desk on oth alike k.state;
  }

  -- ---- all sessions

  differ : (j i : ℕ) → (j == i) ≡ false → (suc j == suc i) ≡ false
  differ j i h = grind arith

  -- the elements of a list with one element put at a place
  set-cases : {A : Type 0} (xs : List A) (i j : ℕ) (x y : A) → slice_get (slice_set xs i x) j ≡ Some y → ((j ≡ i) × (x ≡ y)) ⊎ (((j == i) ≡ false) × (slice_get xs j ≡ Some y))
  set-cases [] i j x y h = inr (grind arith, h)
  set-cases (z ∷ zs) zero zero x y h = inl (refl, grind arith)
  set-cases (z ∷ zs) zero (suc j) x y h = inr (grind arith, h)
  set-cases (z ∷ zs) (suc i) zero x y h = inr (grind arith, h)
  set-cases (z ∷ zs) (suc i) (suc j) x y h = elim (set-cases zs i j x y h) [
    | inl e ↦ inl (ap suc e.0, e.1)
    | inr e ↦ inr (differ j i e.0, e.1)
  ]

  each-stepped : (o : Opening) (g h : Ground) (members : List Member) (events es : List Event) (i : ℕ) (n : Member) → (r : AreRight M o g members events) → (s : Steps M o (place o events) g (suc i) n h es) →
      (j : ℕ) (m : Member) → slice_get (slice_set members i n) j ≡ Some m → Stands M o s.to h (suc j) m
  each-stepped o g h members events es i n r s j m found = elim (set-cases members i j n m found) [
    | inl e ↦ rw e.0 (subst (λ x. Stands M o s.to h (suc i) x) e.1 s.stands)
    | inr e ↦ carried o (place o events) s.to g h (suc j) m
        (subst (λ q. Same (place o events) q (suc j)) s.leads (place-same o (place o events) es (suc i) (suc j) s.own (differ j i e.0)))
        (s.desks (suc j) (differ j i e.0)) r.fit.order s.fit.order (s.alike (suc j) (differ j i e.0)) (r.each j m e.1)
  ]

  pub stepped : (o : Opening) (g h : Ground) (members : List Member) (events es : List Event) (i : ℕ) (n : Member) → AreRight M o g members events → Steps M o (place o events) g (suc i) n h es →
      AreRight M o h (slice_set members i n) (events ++ es)
  stepped o g h members events es i n r s =
      let leads = place-grown o (start o) events es ∙ s.leads in
      record {
        legal = legal-grown o events es r.legal s.may (subst (λ q. is_free q.due ≡ true) (sym s.leads) (rw s.settled refl));
        fit = subst (λ (q : Place). IsFit M q h) (sym leads) s.fit;
        each = subst (λ (q : Place). (j : ℕ) (m : Member) → slice_get (slice_set members i n) j ≡ Some m → Stands M o q h (suc j) m) (sym leads) (each-stepped o g h members events es i n r s);
      }

  -- ---- what a session finds

  free-nothing : (d : Due) → is_free d ≡ true → d ≡ nothing
  free-nothing nothing h = refl
  free-nothing (commit_reply s) h = grind arith
  free-nothing (rollback_reply s) h = grind arith
  free-nothing (rolls_back s) h = grind arith

  pub here : (o : Opening) (g : Ground) (members : List Member) (events : List Event) (i : ℕ) (m : Member) → g.dead ≡ 0 → AreRight M o g members events → slice_get members i ≡ Some m → Here M o (place o events) g (suc i) m
  here o g members events i m none r found = record { awake = r.fit.dead ∙ none; free = free-nothing (place o events).due r.legal.settled; fit = r.fit; asks = legal-one o events r.legal; stands = r.each i m found }

  -- ---- steps of one session in turn are one step

  -- what it finds behind its own step
  pub arrives : (o : Opening) (p : Place) (g h : Ground) (s : ℕ) (m n : Member) (es : List Event) → h.dead ≡ 0 → Here M o p g s m → (st : Steps M o p g s n h es) → Here M o st.to h s n
  arrives o p g h s m n es none here st = record {
    awake = st.fit.dead ∙ none;
    free = st.settled;
    fit = st.fit;
    asks = subst AskForOne st.leads (place-one o p es st.may here.asks);
    stands = st.stands;
  }

  -- nothing happens in the account
  pub rests : (o : Opening) (p : Place) (g : Ground) (s : ℕ) (m : Member) → Here M o p g s m → Steps M o p g s m g []
  rests o p g s m h = record { may = tt; own = tt; to = p; leads = refl; settled = h.free; fit = h.fit; stands = h.stands; desks = λ t other. refl; alike = λ t other. alike-refl (needs_at p t) g.now }

  own-append : (s : ℕ) (es fs : List Event) → AreOf s es → AreOf s fs → AreOf s (es ++ fs)
  own-append s [] fs a b = b
  own-append s (e ∷ es) fs a b = (a.0, own-append s es fs a.1 b)

  pub in-turn : (o : Opening) (p : Place) (g h k : Ground) (s : ℕ) (n m : Member) (es fs : List Event) → (a : Steps M o p g s n h es) → Steps M o a.to h s m k fs → Steps M o p g s m k (es ++ fs)
  in-turn o p g h k s n m es fs a b = record {
    may = follow-grown o p es fs a.may (subst (λ (q : Place). MayFollow o q fs) (sym a.leads) b.may);
    own = own-append s es fs a.own b.own;
    to = b.to;
    leads = place-grown o p es fs ∙ (ap (λ q. place_from o q fs) a.leads ∙ b.leads);
    settled = b.settled;
    fit = b.fit;
    stands = b.stands;
    desks = λ t other. b.desks t other ∙ a.desks t other;
    alike = λ t other. alike-trans (needs_at p t) g.now h.now k.now (a.alike t other)
        (subst (λ x. AreAlike (got_of x) h.now k.now) ((subst (λ (q : Place). Same p q t) a.leads (place-same o p es s t a.own other)).transaction) (b.alike t other));
  }

  -- time goes on
  pub elapses : (o : Opening) (p : Place) (g : Ground) (s : ℕ) (left : List Uttered) (state : State) (total time : ℕ) → (h : Found M o p g s (member left state total)) → g.time ≤ time → Steps M o p g s (member left state total) (record g { time = time }) []
  elapses o p g s left state total time h later =
      let k : Ground = record g { time = time } in
      record {
        may = tt;
        own = tt;
        to = p;
        leads = refl;
        settled = h.free;
        fit = record { dead = h.fit.dead; past = omega (arith, h.fit.past, later); order = h.fit.order; stands = h.fit.stands; apart = h.fit.apart };
        stands = record {
          answered = h.stands.answered;
          script = h.stands.script;
          total = h.stands.total;
          count = h.stands.count;
          lives = h.stands.lives;
          state = stands-on o p p g k s left state refl refl h.fit.order h.fit.order (alike-refl (needs_at p s) g.now) h.stands.state;
        };
        desks = λ t other. refl;
        alike = λ t other. alike-refl (needs_at p t) g.now;
      }
