-- What each operation leaves alone, and a way to say a thing of each operation once.
use Prim.Native.Nat.{ℕ, zero, suc, ◌<◌, ◌≤◌}
use mathlib.Core.Path.{◌≡◌, refl, sym, ap, ◌∙◌}
use mathlib.Core.Bool.{Bool, true, false, cond, not, ◌&&◌, ◌||◌, false≢true}
use mathlib.Core.List.{List, [], ◌∷◌}
use native.Mathlib.Omega.{arith}
use native.Mathlib.Nat.{le_of_suc-le-suc}
use lib.Dec.{ltb, eqb}
use lib.ListN.{length, get_or-eq_default}
use borrow.Author.Tests.{ltb-true, ltb-false}
use Rattle.rules.specs.declared.Task.{Task}
use Rattle.rules.specs.declared.Timer.{Timer}
use Rattle.rules.specs.declared.Table.{Table}
use Rattle.rules.specs.declared.Call.{Call}
use Rattle.rules.specs.Numbers.{STOP, END, CLEAR, ENTER, EXIT, SEND, RETRIEVE, ARM, TICK}
use Rattle.rules.specs.Words.{by_operation}
use Rattle.rules.specs.Tasks.{signalled}
use Rattle.rules.specs.Regions.{held_by_other, entered, exited}
use Rattle.rules.specs.Timers.{later, is_due}
use Rattle.rules.specs.Tables.{region_of, with_region, changed, election_of}
use Rattle.rules.specs.Effects.{Effect, plain, nothing, suspend, enter, hand_on, hands_on, exit, ringing, ticked, operations, effect}
use Rattle.rules.proofs.Bools.{◌&◌, not_intro}

-- ---- by operation

-- P at each number below n
abbrev pub Upto {ℓ} : ℕ → (ℕ → Type ℓ) → Type ℓ
Upto zero P = Unit
Upto (suc n) P = P zero × Upto n (λ k. P (suc k))

pub upto {ℓ} : (n : ℕ) (P : ℕ → Type ℓ) → Upto n P → (k : ℕ) → k < n → P k
upto zero P p k h = absurd (omega arith)
upto (suc n) P p zero h = p.0
upto (suc n) P p (suc k) h = upto n (λ j. P (suc j)) p.1 k (le_of_suc-le-suc h)

-- a number past the thirteen does nothing
pub effect_past : (t : Table) (c : Call) → length operations ≤ c.operation → effect t c ≡ plain t
unfolding effect
effect_past t c h = ap (λ f. f t c) (get_or-eq_default operations nothing h)

-- what holds of each operation's effect, and of nothing done, holds of every call's effect
pub each_effect {ℓ} : (t : Table) (c : Call) (P : ℕ → Effect → Type ℓ)
    → Upto (length operations) (λ n. P n (by_operation nothing n operations t c)) → ((n : ℕ) → P n (plain t)) → P c.operation (effect t c)
unfolding effect
each_effect t c P each none = go (ltb c.operation (length operations)) refl
  where
    go : (b : Bool) → ltb c.operation (length operations) ≡ b → P c.operation (effect t c)
    go true h = upto (length operations) (λ n. P n (by_operation nothing n operations t c)) each c.operation (ltb-true _ _ h)
    go false h = rw (effect_past t c (ltb-false _ _ h)) (none c.operation)

-- ---- due timers

-- what no change of a task touches, no ringing touches
pub ringing_same {ℓ} : {X : Type ℓ} (f : Table → X) → ((i : ℕ) (g : Task → Task) (t : Table) → f (changed i g t) ≡ f t) → (n : ℕ) (rs : List Timer) (t : Table)
    → f (ringing n rs t) ≡ f t
unfolding ringing
ringing_same f k n [] t = refl
ringing_same f k n (r ∷ rs) t = ringing_same f k n rs (cond (is_due n r) (changed r.owner (signalled r.event) t) t) ∙ go (is_due n r)
  where
    go : (b : Bool) → f (cond b (changed r.owner (signalled r.event) t) t) ≡ f t
    go true = k r.owner (signalled r.event) t
    go false = refl

-- ---- what is left alone

-- counts, priorities, marks and bounds, and the elected task until the election
pub record Frame : Type 0 where
  pub tasks : ℕ
  pub regions : ℕ
  pub queues : ℕ
  pub elected : ℕ
  pub priority : List ℕ
  pub opened : List ℕ
  pub bound : List ℕ

abbrev pub frame_of : Table → Frame
frame_of t =
    record {
      tasks = t.tasks;
      regions = t.regions;
      queues = t.queues;
      elected = t.elected;
      priority = t.priority;
      opened = t.opened;
      bound = t.bound;
    }

-- what a call may change of the tasks
pub record Columns : Type 0 where
  pub state : List ℕ
  pub arrived : List ℕ
  pub list : List ℕ
  pub operator : List ℕ

abbrev pub columns_of : Table → Columns
columns_of t = record { state = t.state; arrived = t.arrived; list = t.list; operator = t.operator }

-- what is said of the regions
pub record Held : Type 0 where
  pub holder : List ℕ
  pub entries : List ℕ

abbrev pub held_of : Table → Held
held_of t = record { holder = t.holder; entries = t.entries }

-- what the queues hold
pub record Contents : Type 0 where
  pub lengths : List ℕ
  pub element : List ℕ
  pub criterion : List ℕ

abbrev pub contents_of : Table → Contents
contents_of t = record { lengths = t.length; element = t.element; criterion = t.criterion }

-- the two entries of the lists below, which have one for each operation: it leaves this alone; the law doesn't speak of it
kept : {P X : Type 0} {x : X} → P → x ≡ x
kept p = refl

never : {X : Type 0} → false ≡ true → X
never h = absurd (false≢true h)

-- what holds of both of two effects holds of the one that is chosen
pub either_effect {ℓ} : (P : Effect → Type ℓ) (b : Bool) {x y : Effect} → P x → P y → P (cond b x y)
either_effect P true p q = p
either_effect P false p q = q

pub chosen {ℓ} : {X : Type ℓ} (f : Effect → X) (b : Bool) (x y : Effect) → f (cond b x y) ≡ cond b (f x) (f y)
chosen f true x y = refl
chosen f false x y = refl

module _ (t : Table) (c : Call) where
  -- ENTER and EXIT do one of two things each: they leave alone what both leave alone
  enter_keeps : {X : Type 0} (f : Table → X) → f (suspend t c).table ≡ f t
      → f (with_region c.a (entered c.caller (region_of t c.a)) t) ≡ f t → f (enter t c).table ≡ f t
  enter_keeps f p q = either_effect (λ e. f e.table ≡ f t) (held_by_other c.caller (region_of t c.a)) p q

  exit_keeps : {X : Type 0} (f : Table → X) → f (hand_on c.a t) ≡ f t → f (with_region c.a (exited (region_of t c.a)) t) ≡ f t
      → f (exit t c).table ≡ f t
  exit_keeps f p q = either_effect (λ e. f e.table ≡ f t) (hands_on c.a t) p q

  -- a tick leaves alone what no change of a task touches
  tick_keeps : {X : Type 0} (f : Table → X) → ((i : ℕ) (g : Task → Task) (u : Table) → f (changed i g u) ≡ f u)
      → f (ringing (later t.ticks 1) t.timers t) ≡ f t
  tick_keeps f k = ringing_same f k (later t.ticks 1) t.timers t

  -- no operation changes counts, priorities, marks or bounds
  pub frame_kept : frame_of (effect t c).table ≡ frame_of t
  unfolding ticked
  frame_kept =
      each_effect t c (λ n e. frame_of e.table ≡ frame_of t)
      (refl & refl & refl & refl & refl & refl & enter_keeps frame_of refl refl & exit_keeps frame_of refl refl & refl & refl & refl & refl
      & tick_keeps frame_of (λ i g u. refl) & tt)
      (λ n. refl)

  -- only the first six and TICK change a task
  pub columns_kept : (ltb CLEAR c.operation && ltb c.operation TICK) ≡ true → columns_of (effect t c).table ≡ columns_of t
  columns_kept =
      each_effect t c (λ n e. (ltb CLEAR n && ltb n TICK) ≡ true → columns_of e.table ≡ columns_of t)
      (never & never & never & never & never & never & (λ h. enter_keeps columns_of refl refl) & (λ h. exit_keeps columns_of refl refl) & kept & kept
      & kept & kept & never & tt)
      (λ n. kept)

  -- only ENTER and EXIT change a holder or a count of entries
  pub regions_kept : not (eqb c.operation ENTER || eqb c.operation EXIT) ≡ true → held_of (effect t c).table ≡ held_of t
  unfolding ticked
  regions_kept =
      each_effect t c (λ n e. not (eqb n ENTER || eqb n EXIT) ≡ true → held_of e.table ≡ held_of t)
      (kept & kept & kept & kept & kept & kept & never & never & kept & kept & kept & kept & (λ h. tick_keeps held_of (λ i g u. refl)) & tt)
      (λ n. kept)

  -- only STOP, END, ENTER and EXIT change for which region a task waits
  pub awaits_kept : not ((eqb c.operation STOP || eqb c.operation END) || (eqb c.operation ENTER || eqb c.operation EXIT)) ≡ true
      → (effect t c).table.awaits ≡ t.awaits
  unfolding ticked
  awaits_kept =
      each_effect t c (λ n e. not ((eqb n STOP || eqb n END) || (eqb n ENTER || eqb n EXIT)) ≡ true → e.table.awaits ≡ t.awaits)
      (kept & never & never & kept & kept & kept & never & never & kept & kept & kept & kept & (λ h. tick_keeps (λ u. u.awaits) (λ i g u. refl)) & tt)
      (λ n. kept)

  -- only SEND and RETRIEVE change what the queues hold
  pub contents_kept : (eqb c.operation SEND || eqb c.operation RETRIEVE) ≡ false → contents_of (effect t c).table ≡ contents_of t
  unfolding ticked
  contents_kept h =
      each_effect t c (λ n e. not (eqb n SEND || eqb n RETRIEVE) ≡ true → contents_of e.table ≡ contents_of t)
      (kept & kept & kept & kept & kept & kept & (λ h. enter_keeps contents_of refl refl) & (λ h. exit_keeps contents_of refl refl) & never & never
      & kept & kept & (λ h. tick_keeps contents_of (λ i g u. refl)) & tt)
      (λ n. kept)
      (not_intro _ h)

  -- an operation that changes neither a task nor a holder changes nothing that the election reads
  pub election_kept : (ltb EXIT c.operation && ltb c.operation TICK) ≡ true → election_of (effect t c).table ≡ election_of t
  election_kept =
      each_effect t c (λ n e. (ltb EXIT n && ltb n TICK) ≡ true → election_of e.table ≡ election_of t)
      (never & never & never & never & never & never & never & never & kept & kept & kept & kept & never & tt)
      (λ n. kept)

  -- only STOP, END, ARM, DISARM and TICK change a timer, and only TICK the counter
  pub timers_kept : (ltb c.operation ARM && not (eqb c.operation STOP || eqb c.operation END)) ≡ true → (effect t c).table.timers ≡ t.timers
  timers_kept =
      each_effect t c (λ n e. (ltb n ARM && not (eqb n STOP || eqb n END)) ≡ true → e.table.timers ≡ t.timers)
      (kept & never & never & kept & kept & kept & (λ h. enter_keeps (λ u. u.timers) refl refl) & (λ h. exit_keeps (λ u. u.timers) refl refl) & kept
      & kept & never & never & never & tt)
      (λ n. kept)

  pub ticks_kept : ltb c.operation TICK ≡ true → (effect t c).table.ticks ≡ t.ticks
  ticks_kept =
      each_effect t c (λ n e. ltb n TICK ≡ true → e.table.ticks ≡ t.ticks)
      (kept & kept & kept & kept & kept & kept & (λ h. enter_keeps (λ u. u.ticks) refl refl) & (λ h. exit_keeps (λ u. u.ticks) refl refl) & kept
      & kept & kept & kept & never & tt)
      (λ n. kept)

-- EXIT looks at the regions and at who waits for them: in two tables that agree on these, whatever their events are, it leaves regions that agree
pub exit_by_regions : (t u : Table) (c : Call) → t.priority ≡ u.priority → t.awaits ≡ u.awaits → t.opened ≡ u.opened
    → t.holder ≡ u.holder → t.entries ≡ u.entries
    → ((exit t c).table.holder ≡ (exit u c).table.holder) × ((exit t c).table.entries ≡ (exit u c).table.entries)
exit_by_regions t u c p w o h n = (
  holder_after t ∙ rw (p, w, o, h, n) refl ∙ sym (holder_after u),
  entries_after t ∙ rw (p, w, o, h, n) refl ∙ sym (entries_after u),
)
  where
    holder_after : (v : Table) → (exit v c).table.holder
        ≡ cond (hands_on c.a v) (hand_on c.a v).holder (with_region c.a (exited (region_of v c.a)) v).holder
    holder_after v = chosen (λ e. e.table.holder) (hands_on c.a v) _ _

    entries_after : (v : Table) → (exit v c).table.entries
        ≡ cond (hands_on c.a v) (hand_on c.a v).entries (with_region c.a (exited (region_of v c.a)) v).entries
    entries_after v = chosen (λ e. e.table.entries) (hands_on c.a v) _ _
