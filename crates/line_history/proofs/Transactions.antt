-- How what an open transaction said goes on holding, as it says more and as others commit; and what follows for its account.
use Rattle.std.proofs.Common.{◌≡◌, ℕ, true, false, List, [], ◌∷◌, ◌++◌, map, Option, Some, refl, sym, ap, subst, ◌∙◌}
use Rattle.rdo_ast.specs.declared.reply.Standing.{Standing}
use Rattle.rdo_ast.specs.declared.reply.Standing.TheVariants.{Closed}
use Rattle.rdo_ast.specs.Tree.{Uttered}
use Rattle.rdb_meaning.specs.declared.tables.Tables.{Tables}
use Rattle.rdb_meaning.specs.Meaning.{meaning, Does}
use Rattle.rdb_meaning.specs.Usual.{is_refusal_of_means}
use Rattle.lock_needs.specs.declared.need.Need.{Need}
use Rattle.line_view.specs.declared.writes.Write.{Write}
use Rattle.line_view.specs.Knowledge.{Knowledge, Lines, IsInOrder, Agrees}
use Rattle.line_view.specs.Writes.{laid_all}
use Rattle.line_view.proofs.Written.{laid_in_turn}
use Rattle.rdb_account.specs.Places.{Opening, Place, Line, Folded, Transaction, retold, told, fresh, some_reply, next_item, IsTold}
use Rattle.rdb_account.specs.Lawful.{IsExcused, has_cause, reply_of}
use Rattle.rdb_account.specs.AskedFor.{IsAskedFor, is_asked_in, next_asks}
use Rattle.rdb_account.specs.Legal.{IsReply, standing_of_reader}
use Rattle.rdb_account.proofs.Growth.{folded-grown}
use Rattle.std.proofs.lemmas.List.{map-append}
use Rattle.lock_tree_laws.specs.Forest.{no_conflict}
use Rattle.kept_apart.specs.Guards.{AreOwn}
use Rattle.kept_apart.specs.Alike.{AreAlike, IsGuarded, GuardsMore}
use Rattle.kept_apart.proofs.Alike.{alike-refl, alike-trans, alike-fewer, alike-laid-all, alike-agrees, alike-others, view-stays}
use Rattle.session_jobs.specs.Records.{Model, IsOrderly, Worked, IsRight}
use Rattle.line_history.specs.Transactions.{line_of, Leads, Holds, IsWriting, IsReading, IsAskedOver}

-- ---- the fold grows by one line

told-usual : (word : List ℕ) (f : Folded) (r : Worked) (t : Tables) → is_refusal_of_means r.reply ≡ false → Does word f.standing r.item r.choices f.tables r.reply t r.behind →
    told word f (line_of r) ≡ record { tables = t; standing = r.behind; replies = f.replies ++ Some r.reply ∷ [] }
told-usual word f r t usual m = rw usual (rw m refl)

told-excused : (word : List ℕ) (f : Folded) (l : Line) → is_refusal_of_means l.reply ≡ true → told word f l ≡ record f { replies = f.replies ++ some_reply l ∷ [] }
told-excused word f l refused = rw refused refl

replies-grown : (lines : List Line) (l : Line) → map some_reply lines ++ some_reply l ∷ [] ≡ map some_reply (lines ++ l ∷ [])
replies-grown lines l = sym (map-append some_reply lines (l ∷ []))

abbrev led : Tables → Standing → List Line → Folded
led t standing lines = record { tables = t; standing = standing; replies = map some_reply lines }

fold-grown : (word : List ℕ) (base : Tables) (lines : List Line) (l : Line) (t t' : Tables) (standing standing' : Standing) → retold word base lines ≡ led t standing lines →
    told word (led t standing lines) l ≡ record { tables = t'; standing = standing'; replies = map some_reply lines ++ some_reply l ∷ [] } →
    retold word base (lines ++ l ∷ []) ≡ led t' standing' (lines ++ l ∷ [])
fold-grown word base lines l t t' standing standing' h k =
    folded-grown word (fresh base) lines l ∙ (ap (λ f. told word f l) h ∙ (k ∙ ap (λ rs. record { tables = t'; standing = standing'; replies = rs }) (replies-grown lines l)))

-- ---- one transaction

module _ (M : Model) (orderly : IsOrderly M) (word : List ℕ) where
  -- nothing was said yet
  pub holds-fresh : (got : List Need) (now : Lines) → Holds M word got now [] [] Closed
  holds-fresh got now all t alike m = record { then = t; folded = refl; stands = m }

  -- a statement was worked over a view, and its record is right
  pub holds-said : (got more : List Need) (now : Lines) (lines : List Line) (writes : List Write) (standing : Standing) (known : Knowledge) (r : Worked) → IsInOrder now →
      Holds M word got now lines writes standing → GuardsMore got more → IsRight M word standing known r → IsGuarded more known → Agrees known (laid_all writes now) →
      Holds M word more now (lines ++ line_of r ∷ []) (writes ++ r.writes) r.behind
  holds-said got more now lines writes standing known r order h grown right guarded agrees all t alike m =
      let before = h all t (alike-fewer got more now all grown alike) m in
      let view = alike-agrees more known (laid_all writes now) (laid_all writes all) (alike-laid-all more writes now all order (orderly all t m) alike) guarded agrees in
      let does = right.does (laid_all writes all) before.then before.stands view in
      record {
        then = does.then;
        folded = fold-grown word t lines (line_of r) before.then does.then standing r.behind before.folded (told-usual word (led before.then standing lines) r does.then right.usual does.does);
        stands = subst (λ (x : Lines). M x does.then) (sym (laid_in_turn writes r.writes all)) does.stands;
      }

  -- a statement was refused by a lock, a limit or memory
  pub holds-excused : (got more : List Need) (now : Lines) (lines : List Line) (writes : List Write) (standing : Standing) (l : Line) →
      Holds M word got now lines writes standing → GuardsMore got more → is_refusal_of_means l.reply ≡ true → Holds M word more now (lines ++ l ∷ []) writes standing
  holds-excused got more now lines writes standing l h grown refused all t alike m =
      let before = h all t (alike-fewer got more now all grown alike) m in
      record {
        then = before.then;
        folded = fold-grown word t lines l before.then before.then standing standing before.folded (told-excused word (led before.then standing lines) l refused);
        stands = before.stands;
      }

  -- what was written is kept as other writes that come to the same
  pub holds-relaid : (got : List Need) (now : Lines) (lines : List Line) (writes others : List Write) (standing : Standing) → ((all : Lines) → IsInOrder all → laid_all others all ≡ laid_all writes all) →
      Holds M word got now lines writes standing → Holds M word got now lines others standing
  holds-relaid got now lines writes others standing same h all t alike m =
      let before = h all t alike m in
      record { then = before.then; folded = before.folded; stands = subst (λ (x : Lines). M x before.then) (sym (same all (orderly all t m))) before.stands }

  -- others committed
  pub holds-beside : (got : List Need) (now then : Lines) (lines : List Line) (writes : List Write) (standing : Standing) → AreAlike got now then →
      Holds M word got now lines writes standing → Holds M word got then lines writes standing
  holds-beside got now then lines writes standing alike h all t k m = h all t (alike-trans got now then all alike k) m

  -- over the committed lines
  pub holds-now : (got : List Need) (now : Lines) (lines : List Line) (writes : List Write) (standing : Standing) (t : Tables) → M now t →
      Holds M word got now lines writes standing → Leads M word lines writes standing now t
  holds-now got now lines writes standing t m h = h now t (alike-refl got now) m

  -- ---- the whole invariant of an open transaction

  -- its needs grow, and it learns more
  pub writing-learns : (got more : List Need) (now : Lines) (lines : List Line) (writes : List Write) (standing : Standing) (known new : Knowledge) → IsWriting M word got now lines writes standing known →
      GuardsMore got more → AreOwn more writes → IsGuarded more new → Agrees new (laid_all writes now) → IsWriting M word more now lines writes standing new
  writing-learns got more now lines writes standing known new h grown own guarded agrees = record {
    holds = λ all t alike m. h.holds all t (alike-fewer got more now all grown alike) m;
    own = own;
    guarded = guarded;
    agrees = agrees;
  }

  -- A commit of another.
  pub writing-beside : (got theirs : List Need) (now : Lines) (lines : List Line) (writes others : List Write) (standing : Standing) (known : Knowledge) → IsInOrder now → no_conflict got theirs ≡ true →
      AreOwn theirs others → IsWriting M word got now lines writes standing known → IsWriting M word got (laid_all others now) lines writes standing known
  writing-beside got theirs now lines writes others standing known order apart may h = record {
    holds = holds-beside got now (laid_all others now) lines writes standing (alike-others got theirs others now apart may) h.holds;
    own = h.own;
    guarded = h.guarded;
    agrees = view-stays got theirs known writes others now order apart may h.guarded h.agrees;
  }

  -- ---- the rule of an account: what was said stands over the tables of the commits so far

  -- at each event of the transaction, its items have their replies over the tables of the commits so far
  pub stands-told : (got : List Need) (now : Lines) (lines : List Line) (writes : List Write) (standing : Standing) (t : Tables) → M now t → Holds M word got now lines writes standing → IsTold word t lines
  stands-told got now lines writes standing t m h = ap (λ f. f.replies) (holds-now got now lines writes standing t m h).folded

  -- the next line, where it was worked
  pub stands-answered : (o : Opening) (p : Place) (s : ℕ) (got : List Need) (now : Lines) (lines : List Line) (writes : List Write) (standing : Standing) (known : Knowledge) (r : Worked) → M now p.tables → o.word ≡ word →
      Holds M word got now lines writes standing → IsRight M word standing known r → Agrees known (laid_all writes now) →
      IsReply o p s (retold o.word p.tables lines).standing (retold o.word p.tables lines).tables (line_of r)
  stands-answered o p s got now lines writes standing known r m is h right agrees =
      let before = holds-now got now lines writes standing p.tables m h in
      let does = right.does (laid_all writes now) before.then before.stands agrees in
      subst (λ (w : List ℕ). IsReply o p s (retold w p.tables lines).standing (retold w p.tables lines).tables (line_of r)) (sym is)
      (subst (λ (f : Folded). IsReply o p s f.standing f.tables (line_of r)) (sym before.folded)
      (rw right.usual (subst (λ (w : List ℕ). reply_of (meaning w standing r.item r.choices before.then) ≡ Some r.reply) (sym is) (ap reply_of does.does))))

  -- the next line, where a lock, a limit or memory refused it
  pub stands-excused : (o : Opening) (p : Place) (s : ℕ) (got : List Need) (now : Lines) (lines : List Line) (writes : List Write) (standing : Standing) (l : Line) → M now p.tables → o.word ≡ word →
      Holds M word got now lines writes standing → is_refusal_of_means l.reply ≡ true → ((t : Tables) → M (laid_all writes now) t → IsExcused l.reply word standing t l.item) → has_cause o p s l.reply ≡ true →
      IsReply o p s (retold o.word p.tables lines).standing (retold o.word p.tables lines).tables l
  stands-excused o p s got now lines writes standing l m is h refused excused cause =
      let before = holds-now got now lines writes standing p.tables m h in
      subst (λ (w : List ℕ). IsReply o p s (retold w p.tables lines).standing (retold w p.tables lines).tables l) (sym is)
      (subst (λ (f : Folded). IsReply o p s f.standing f.tables l) (sym before.folded)
      (rw refused (subst (λ (w : List ℕ). IsExcused l.reply w standing before.then l.item) (sym is) (excused before.then before.stands), cause)))

  -- a need that the statement under way asks for, over all that agrees with what is known
  pub stands-asked : (o : Opening) (p : Place) (s : ℕ) (x : Transaction) (now : Lines) (writes : List Write) (standing : Standing) (known : Knowledge) (item : Uttered) (n : Need) → M now p.tables → o.word ≡ word →
      p.transaction s ≡ Some x → next_item o p s ≡ Some item → Holds M word x.got now x.lines writes standing → Agrees known (laid_all writes now) → IsAskedOver M standing (Some item) known n → IsAskedFor o p s n
  stands-asked o p s x now writes standing known item n m is is_open next h agrees asked =
      let before = holds-now x.got now x.lines writes standing p.tables m h in
      subst (λ (y : Option Transaction). is_asked_in o p s n y ≡ true) (sym is_open)
      (subst (λ (i : Option Uttered). next_asks (retold o.word p.tables x.lines) n i ≡ true) (sym next)
      (subst (λ (w : List ℕ). next_asks (retold w p.tables x.lines) n (Some item) ≡ true) (sym is)
      (subst (λ (f : Folded). next_asks f n (Some item) ≡ true) (sym before.folded) (asked (laid_all writes now) before.then before.stands agrees))))

  -- At its commit the committed lines under its writes stand for the tables of its items.
  pub commit-stands : (got : List Need) (now : Lines) (lines : List Line) (writes : List Write) (standing : Standing) (t : Tables) → M now t → Holds M word got now lines writes standing →
      M (laid_all writes now) (retold word t lines).tables
  commit-stands got now lines writes standing t m h =
      let leads = holds-now got now lines writes standing t m h in
      subst (λ (x : Tables). M (laid_all writes now) x) (sym (ap (λ f. f.tables) leads.folded)) leads.stands

  -- ---- readers

  pub reader-answered : (o : Opening) (p : Place) (s : ℕ) (start : Lines) (base : Tables) (lines : List Line) (known : Knowledge) (r : Worked) → o.word ≡ word → IsReading M start base known →
      IsRight M word (standing_of_reader lines) known r → IsReply o p s (standing_of_reader lines) base (line_of r)
  reader-answered o p s start base lines known r is reads right =
      let does = right.does start base reads.stands reads.agrees in
      rw right.usual (subst (λ (w : List ℕ). reply_of (meaning w (standing_of_reader lines) r.item r.choices base) ≡ Some r.reply) (sym is) (ap reply_of does.does))

  -- where a limit or memory refused it
  pub reader-excused : (o : Opening) (p : Place) (s : ℕ) (start : Lines) (base : Tables) (lines : List Line) (known : Knowledge) (l : Line) → o.word ≡ word → IsReading M start base known → is_refusal_of_means l.reply ≡ true →
      ((t : Tables) → M start t → IsExcused l.reply word (standing_of_reader lines) t l.item) → has_cause o p s l.reply ≡ true → IsReply o p s (standing_of_reader lines) base l
  reader-excused o p s start base lines known l is reads refused excused cause =
      rw refused (subst (λ (w : List ℕ). IsExcused l.reply w (standing_of_reader lines) base l.item) (sym is) (excused base reads.stands), cause)
