-- A Grant of what lacks.
use Rattle.std.proofs.Common.{◌≡◌, ◌≤◌, ◌<◌, ◌+◌, ◌++◌, ◌∷◌, ◌&&◌, ◌||◌, [], ℕ, nat_le, List, Bool, true, false, not, cond, drop, filter, length, map, take, get_or, refl, sym, ap, subst, ◌∙◌, true≢false, arith}
use Rattle.std.specs.List.{list_any}
use Rattle.std.specs.Prelude.{◌^◌, IsTrue}
use Rattle.std.proofs.lemmas.List.{length-append, length-map, map-append, take_more}
use Rattle.std.proofs.lemmas.List.Elements.{All-nil, All-push}
use Rattle.std.proofs.lemmas.List.Folds.{list_any-append}
use Rattle.cal_base.specs.declared.identity.ClientId.{ClientId}
use Rattle.cal_base.specs.declared.identity.Ino.{Ino}
use Rattle.message.specs.declared.message.Message.TheVariants.{Grant as Gives}
use Rattle.rebuild.specs.Collecting.{Collecting}
use Rattle.revocation.specs.Waiting.{asked_at}
use Rattle.shared_disk.specs.Disk.{Disk}
use Rattle.message.specs.Range as range
use Rattle.token_kind.specs.Class.{has_write}
use Rattle.token_kind.specs.Hold.{hold_number, is_held as is_held-now}
use Rattle.token_kind.specs.Token.{may_hold}
use Rattle.token_kind.specs.declared.content.Content.{Content}
use Rattle.token_kind.specs.declared.content.Content.TheVariants.{Nothing as Nothing-with}
use Rattle.token_kind.specs.declared.hold.Hold.TheVariants.{None as Nothing, Read, Write}
use Rattle.token_kind.specs.declared.«class».Class.{Class}
use Rattle.token_kind.specs.declared.«class».Class.TheVariants.{Names, Data, Attr, Open}
use Rattle.token_kind.specs.declared.grant_item.GrantItem.{GrantItem}
use Rattle.token_kind.specs.declared.hold.Hold.{Hold}
use Rattle.token_kind.specs.declared.token.Token.{Token}
use Rattle.token_table.specs.Changes.{reordered}
use Rattle.token_table.specs.Series.{with_hold, with_holds}
use Rattle.token_table.specs.Table.{IsTable, Table, held_of, is_data_write, same_write}
use Rattle.volume.specs.Volume.{Volume}
use Rattle.cluster_law.specs.Blocking as law
use Rattle.cluster_law.specs.Book.{is_held}
use Rattle.cluster_law.specs.DiskRules.{is_in_blocks, reads_for}
use Rattle.cluster_law.specs.Granting.{IsFreshContent, IsItem}
use Rattle.cluster_law.specs.Lists.{Each}
use Rattle.cluster_law.specs.ServerRules.{ActsWell, Occasion}
use Rattle.cluster_law.specs.ServerState.{ServerState, granted_token, telling}
use Rattle.cluster_law.specs.Tokens.{same_class}
use Rattle.server_book.proofs.Moving.{alike-refl, tells}
use Rattle.server_desk.specs.Desk.{DeskValue, IsLike, with_desk}
use Rattle.server_draft.specs.Acts.{act_of, acts_of}
use Rattle.server_draft.specs.Draft.{Follows, HasSpace, reached}
use Rattle.server_draft.specs.declared.act.Act.TheVariants.{Tells}
use Rattle.server_draft.specs.declared.draft.Draft.{Draft}
use Rattle.server_line.specs.Granted.{Answers, AreAnswers, AreNeeds, IsNeed, MayRead}
use Rattle.server_line.specs.Known.{SeesOwn, known}
use Rattle.volume_names.specs.Named.{AreNamed}
use Rattle.server_line.specs.Served.{Keeps}
use Rattle.server_line.proofs.Committed.{space-alike}
use Rattle.server_line.proofs.Going.{alike-known, grant-quiet, keeps-one, well-reached}

-- what a desk that grants leaves
record Granted (old desk : DeskValue) : Type 0 where
  standing : record desk.collecting { table = old.collecting.table } ≡ old.collecting
  requests : desk.requests ≡ drop 1 old.requests
  asked : (q : _) → asked_at desk.asked q ≡ asked_at old.asked q

granted-by : (old desk : DeskValue) (volume : Volume) (client : ClientId) (number : ℕ) (items : List GrantItem) (tokens : List Token)
    → ((server : ServerState) (number : ℕ) (items : List GrantItem) → IsLike old server → map granted_token items ≡ tokens → IsLike desk (telling server client (Gives number items))) → map granted_token items ≡ tokens → Granted old desk
granted-by old desk volume client number items tokens like are =
    let alike = like (with_desk old volume []) number items (alike-refl (with_desk old volume [])) are in
    record {
      standing = ap (λ (s : Collecting). record s { table = old.collecting.table }) alike.standing;
      requests = alike.requests;
      asked = alike.asked;
    }

module _ (old new : Draft) (desk : DeskValue) (client : ClientId) (number : ℕ) (items : List GrantItem) (tokens : List Token)
    (like : (server : ServerState) (number : ℕ) (items : List GrantItem) → IsLike old.desk server → map granted_token items ≡ tokens → IsLike desk (telling server client (Gives number items))) (are : map granted_token items ≡ tokens)
    (is : new ≡ record old { desk = desk; acts = old.acts ++ Tells client (Gives number items) ∷ [] })
    (acts : (view : ℕ) → acts_of view new.acts ≡ act_of view (Tells client (Gives number items)) ∷ acts_of view old.acts) where
  granted : Granted old.desk desk
  granted = granted-by old.desk desk old.image client number items tokens like are

  pub give-keeps : Keeps old new
  give-keeps = keeps-one old new (Tells client (Gives number items)) (ap (λ (d : Draft). d.acts) is) acts (ap (λ (d : Draft). record d.desk.collecting { table = old.desk.collecting.table }) is ∙ granted.standing)
      (λ q. ap (λ (d : Draft). asked_at d.desk.asked q) is ∙ granted.asked q) (λ view c before. grant-quiet view client number items c before) (λ view before. refl)

  pub give-gone : new.desk.requests ≡ drop 1 old.desk.requests
  give-gone = ap (λ (d : Draft). d.desk.requests) is ∙ granted.requests

  pub give-follows : ((view : ℕ) (o : Occasion) (start : ServerState) (before : Draft) → Follows view o start before → old.image ≡ before.image → old.acts ≡ before.acts
      → IsLike desk (telling (reached view start before) client (Gives number items)) → HasSpace (telling (reached view start before) client (Gives number items))
      → ActsWell o start (reached view start before) (acts_of view before.acts) (act_of view (Tells client (Gives number items))) → Follows view o start new)
      → (view : ℕ) (o : Occasion) (start : ServerState) → Follows view o start old → HasSpace (telling (known old (reached view start old).sectors) client (Gives number items))
      → ActsWell o start (known old (reached view start old).sectors) (acts_of view old.acts) (act_of view (Tells client (Gives number items))) → Follows view o start new
  give-follows follows view o start f space well =
      follows view o start old f refl refl (like (reached view start old) number items f.like are)
      (space-alike (telling (known old (reached view start old).sectors) client (Gives number items)) (telling (reached view start old) client (Gives number items))
      (tells (known old (reached view start old).sectors) (reached view start old) (alike-known view o start old f) client (Gives number items)) space)
      (well-reached view o start old (act_of view (Tells client (Gives number items))) f well)

-- each Data Write that is granted takes one place more among the writes at most
abbrev pub writes : Token → Bool
writes token = is_data_write token.«class» token.hold

fewer : {X : Type 0} (p : X → Bool) (xs : List X) → length (filter p xs) ≤ length xs
fewer p [] = omega arith
fewer p (x ∷ xs) = by (p x) (fewer p xs)
  where
    by : (b : Bool) → length (filter p xs) ≤ length xs → length (cond b (x ∷ filter p xs) (filter p xs)) ≤ length (x ∷ xs)
    by true le = omega arith
    by false le = omega arith

reordered-few : (ws : List (ClientId × Ino)) (w : ClientId × Ino) (was is : Bool) → length (reordered ws w was is) ≤ length ws + cond is 1 0
reordered-few ws w true true = omega arith
reordered-few ws w true false = let le = fewer (λ v. not (same_write w v)) ws in omega arith
reordered-few ws w false true = let one = length-append ws (w ∷ []) in omega arith
reordered-few ws w false false = omega arith

pub writes-few : (t : Table) (c : ClientId) (tokens : List Token) → length (with_holds t c tokens).writes ≤ length t.writes + length (filter writes tokens)
writes-few t c [] = omega arith
writes-few t c (token ∷ tokens) =
    let one = reordered-few t.writes (c, token.ino) (is_data_write token.«class» (held_of t c token.ino token.«class»)) (writes token) in
    let rest = writes-few (with_hold t c token) c tokens in
    by (writes token) one rest
  where
    by : (b : Bool) → length (with_hold t c token).writes ≤ length t.writes + cond b 1 0 → length (with_holds (with_hold t c token) c tokens).writes ≤ length (with_hold t c token).writes + length (filter writes tokens)
        → length (with_holds (with_hold t c token) c tokens).writes ≤ length t.writes + length (cond b (token ∷ filter writes tokens) (filter writes tokens))
    by true one rest = omega arith
    by false one rest = omega arith

pub none-write : (tokens : List Token) → law.needs_write tokens ≡ false → length (filter writes tokens) ≡ 0
none-write [] e = refl
none-write (token ∷ tokens) e = by (writes token) e (none-write tokens)
  where
    by : (b : Bool) → (b || law.needs_write tokens) ≡ false → (law.needs_write tokens ≡ false → length (filter writes tokens) ≡ 0) → length (cond b (token ∷ filter writes tokens) (filter writes tokens)) ≡ 0
    by true f rest = absurd (true≢false f)
    by false f rest = rest f

pub any-mapped : {X Y : Type 0} (p : Y → Bool) (f : X → Y) (xs : List X) → list_any (λ x. p (f x)) xs ≡ list_any p (map f xs)
any-mapped p f [] = refl
any-mapped p f (x ∷ xs) = ap (λ (b : Bool). p (f x) || b) (any-mapped p f xs)

-- what lacks and is held in the class has a class with Write
lacks-write : (cls : Class) (hold held : Hold) → may_hold cls hold ≡ true → may_hold cls held ≡ true → is_held-now held ≡ true → not (nat_le (hold_number hold) (hold_number held)) ≡ true → IsTrue (has_write cls)
lacks-write Data hold held m n h l = refl
lacks-write Attr hold held m n h l = refl
lacks-write Names hold Nothing m n h l = absurd (true≢false (sym h))
lacks-write Names hold Write m n h l = absurd (true≢false (sym n))
lacks-write Names Nothing Read m n h l = absurd (true≢false (sym l))
lacks-write Names Read Read m n h l = absurd (true≢false (sym l))
lacks-write Names Write Read m n h l = absurd (true≢false (sym m))
lacks-write Open hold Nothing m n h l = absurd (true≢false (sym h))
lacks-write Open hold Write m n h l = absurd (true≢false (sym n))
lacks-write Open Nothing Read m n h l = absurd (true≢false (sym l))
lacks-write Open Read Read m n h l = absurd (true≢false (sym l))
lacks-write Open Write Read m n h l = absurd (true≢false (sym m))

held-both : (h : Hold) → is_held h ≡ is_held-now h
held-both Nothing = refl
held-both Read = refl
held-both Write = refl

three : (a b c : Bool) → ((a ≡ true) × (c ≡ true) → ⊥) → (a && b && c) ≡ false
three false b c none = refl
three true false c none = refl
three true true false none = refl
three true true true none = absurd (none (refl, refl))

class-data : (cls : Class) → same_class cls Data ≡ true → cls ≡ Data
class-data Names e = absurd (true≢false (sym e))
class-data Data e = refl
class-data Attr e = absurd (true≢false (sym e))
class-data Open e = absurd (true≢false (sym e))

-- an item of a class of which something is held
pub held-item : (draft : Draft) (view : ℕ) (disk : Disk) (client : ClientId) (token : Token) (held : Bool) → IsNeed draft.image token → not (law.is_shown draft.desk.collecting.table client token) ≡ true → IsTable draft.desk.collecting.table
    → held ≡ is_held-now (held_of draft.desk.collecting.table client token.ino token.«class») → held ≡ true
    → Answers draft view disk client token (record { ino = token.ino; «class» = token.«class»; hold = token.hold; fresh = false; content = Nothing-with })
held-item draft view disk client token held need lacks table told yes-held =
    let now : is_held-now (held_of draft.desk.collecting.table client token.ino token.«class») ≡ true = sym told ∙ yes-held in
    record {
      token = refl;
      item_is = λ names seat start sees. record { fresh = sym (ap (λ (b : Bool). not b) (held-both (held_of draft.desk.collecting.table client token.ino token.«class») ∙ now)); content = refl };
      formed = record {
        ino = need.ino;
        hold = need.mode;
        fresh = lacks-write token.«class» token.hold (held_of draft.desk.collecting.table client token.ino token.«class») need.mode (table.modes client token.ino token.«class») now lacks;
        content = refl;
      };
      unread = λ other. by (same_class token.«class» Data) refl now;
    }
  where
    by : (b : Bool) → same_class token.«class» Data ≡ b → is_held-now (held_of draft.desk.collecting.table client token.ino token.«class») ≡ true
        → (b && not (is_held (held_of draft.desk.collecting.table client token.ino Data)) && is_in_blocks (known draft []) token.ino) ≡ false
    by false e now = refl
    by true e now =
        let bytes = class-data token.«class» e in
        let has : is_held (held_of draft.desk.collecting.table client token.ino Data) ≡ true =
        held-both (held_of draft.desk.collecting.table client token.ino Data) ∙ ap (λ (k : Class). is_held-now (held_of draft.desk.collecting.table client token.ino k)) (sym bytes) ∙ now in
        ap (λ (h : Bool). not h && is_in_blocks (known draft []) token.ino) has

-- an item of a class of which nothing is held
pub fresh-item : (draft : Draft) (view : ℕ) (disk : Disk) (client : ClientId) (token : Token) (content : Content) (held : Bool) → IsNeed draft.image token
    → held ≡ is_held-now (held_of draft.desk.collecting.table client token.ino token.«class») → held ≡ false
    → (AreNamed draft.image → (seat : ℕ) (start : ServerState) → SeesOwn start view disk → IsFreshContent (known draft (reached seat start draft).sectors) token.ino token.«class» content)
    → range.IsFreshContent token.«class» content → (MayRead draft token.«class» token.ino → disk.key ≡ view)
    → Answers draft view disk client token (record { ino = token.ino; «class» = token.«class»; hold = token.hold; fresh = true; content = content })
fresh-item draft view disk client token content held need told none-held is formed reads = record {
  token = refl;
  item_is = λ names seat start sees. record {
    fresh = sym (ap (λ (b : Bool). not b) (held-both (held_of draft.desk.collecting.table client token.ino token.«class») ∙ sym told ∙ none-held));
    content = is names seat start sees;
  };
  formed = record { ino = need.ino; hold = need.mode; fresh = tt; content = formed };
  unread = λ other. three (same_class token.«class» Data) (not (is_held (held_of draft.desk.collecting.table client token.ino Data))) (is_in_blocks (known draft []) token.ino) (λ may. other (reads may));
}

-- what would be read for an item
pub reads-item : (draft : Draft) (client : ClientId) (token : Token) (held : Bool) → held ≡ is_held-now (held_of draft.desk.collecting.table client token.ino token.«class») → held ≡ false → MayRead draft token.«class» token.ino
    → reads_for (known draft []) client token ≡ true
reads-item draft client token held told none-held may =
    let bytes = class-data token.«class» may.0 in
    let nothing : is_held (held_of draft.desk.collecting.table client token.ino Data) ≡ false =
    held-both (held_of draft.desk.collecting.table client token.ino Data) ∙ ap (λ (k : Class). is_held-now (held_of draft.desk.collecting.table client token.ino k)) (sym bytes) ∙ sym told ∙ none-held in
    (λ i. may.0 i && not (nothing i) && may.1 i)

-- one item more
each-more : {X : Type 0} (P : X → Type 0) (xs : List X) (x : X) → Each P xs → P x → Each P (xs ++ x ∷ [])
each-more P [] x all one = (one, tt)
each-more P (y ∷ ys) x all one = (all.0, each-more P ys x all.1 one)

pub answers-none : (draft : Draft) (view : ℕ) (disk : Disk) (client : ClientId) → AreAnswers draft view disk client [] []
answers-none draft view disk client = record { tokens = refl; each = λ names seat start sees. tt; formed = All-nil range.IsGrantItem; unread = λ other. refl }

pub answers-more : (draft : Draft) (view : ℕ) (disk at : Disk) (client : ClientId) (needs : List Token) (i : ℕ) (d : Token) (items new : List GrantItem) (item : GrantItem) → at ≡ disk → i < length needs
    → AreAnswers draft view disk client (take i needs) items → Answers draft view at client (get_or needs i d) item → new ≡ items ++ item ∷ [] → AreAnswers draft view disk client (take (i + 1) needs) new
answers-more draft view disk at client needs i d items new item same within are one is =
    let this = subst (λ (x : Disk). Answers draft view x client (get_or needs i d) item) same one in
    subst (λ (ts : List Token). AreAnswers draft view disk client ts new) (sym (take_more needs i d within))
    (subst (λ (xs : List GrantItem). AreAnswers draft view disk client (take i needs ++ get_or needs i d ∷ []) xs) (sym is) (record {
      tokens = map-append granted_token items (item ∷ []) ∙ λ j. are.tokens j ++ this.token j ∷ [];
      each = λ names seat start sees. each-more (IsItem (known draft (reached seat start draft).sectors) client) items item (are.each names seat start sees) (this.item_is names seat start sees);
      formed = All-push range.IsGrantItem items item are.formed this.formed;
      unread = λ other. list_any-append (reads_for (known draft []) client) (take i needs) (get_or needs i d ∷ []) ∙ λ j. are.unread other j || (this.unread other j || false);
    }))

-- a Grant's message has a spelling
pub grant-formed : (draft : Draft) (view : ℕ) (disk : Disk) (client : ClientId) (number : ℕ) (needs : List Token) (items : List GrantItem) → 1 ≤ number → number < 2 ^ 64 → AreNeeds draft.image needs → AreAnswers draft view disk client needs items
    → range.IsMessage (Gives number items)
grant-formed draft view disk client number needs items from to are answers =
    ((from, to), record { count = (let mapped = length-map items granted_token in let same = ap (λ (l : List Token). length l) answers.tokens in let few : length needs ≤ 17 = are.count in omega arith); each = answers.formed })
