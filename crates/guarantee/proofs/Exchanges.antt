-- Document 02 No. 8, of the calls and of lists of calls. Assumes nothing.
use Prim.Native.Nat.{ℕ, suc}
use mathlib.Core.Path.{◌≡◌, sym, ap, ◌∙◌}
use mathlib.Core.List.{List, [], ◌∷◌}
use native.Mathlib.Omega.{arith}
use Rattle.guarantee.specs.Exchanges.{FromState, OfLists, Exchanging}
use Rattle.guarantee.specs.Histories.{Session, History, none, turned-down, followed, calls_of, picks_taken, reported}
use Rattle.guarantee.proofs.Histories.{history_run, picks_history, call_lists}
use Rattle.code.specs.Bytes.{compiled}
use Rattle.code.proofs.ReadBack.{read_is_code}
use Rattle.machine.specs.Answers.{sum_of}
use Rattle.machine.specs.Exchange.{Exchanged, here, later, Exchanges}
use Rattle.machine.specs.Exchange as exchange
use Rattle.machine.specs.Steps.{State, fresh, Ran}
use Rattle.machine.proofs.Exchanges.{swapped, exchanges_back, exchanges_same, exchanges_exactly, exchanged_call, by_answer, exchanged_steps}
use Rattle.script.specs.Bytes.{Bytes}
use Rattle.script.specs.Jobs.{Job}
use Rattle.script.specs.Outcome.{done}
use Rattle.script.specs.Reader.{read_job}
use Rattle.stm.specs.Events.{Happened, counts_of}
use Rattle.stm.proofs.Complete.{Below, below_append}
use Rattle.word.specs.Sum.{Rule}

from_state : (sum : Rule) (code : List ℕ) (s : State) → FromState sum code s
from_state sum code s =
    record {
      states = λ is ks x. (exchanges_same sum code x).state;
      counts = λ is ks x. (exchanges_same sum code x).counts;
      symmetric = λ is ks x. exchanges_back sum code x;
      told = λ i k n f g. let w = swapped sum code s i k n f g in (w.tells_i, sym w.tells_k);
      exactly = exchanges_exactly sum code s;
    }

-- ---- picks of lists of calls are bytes
bytes_below : (is : List ℕ) → Bytes is → Below 256 is
bytes_below [] b = tt
bytes_below (i ∷ is) b = (b.small 0 (omega arith), bytes_below is (record { small = λ n l. b.small (suc n) (omega arith) }))

taken_below : {code : List ℕ} {now : Session} {events : List Happened} (h : History code now events) → Below 256 (picks_taken h)
unfolding picks_taken
taken_below none = tt
taken_below (turned-down h c l e) = taken_below h
taken_below (followed h c l a b e) = below_append 256 (picks_taken h) _ (taken_below h) (bytes_below _ l.picks)

exchanged_below : {sum : Rule} {code : List ℕ} {s : State} {is ks : List ℕ} → Exchanged sum code s is ks → Below 256 is → Below 256 ks
exchanged_below (here n f g) b = (b.1.0, (b.0, b.1.1))
exchanged_below (later x) b = (b.0, exchanged_below x b.1)

exchanges_below : {sum : Rule} {code : List ℕ} {s : State} {is ks : List ℕ} → Exchanges sum code s is ks → Below 256 is → Below 256 ks
exchanges_below exchange.none b = b
exchanges_below (exchange.then x xs) b = exchanges_below xs (exchanged_below x b)

-- ---- lists of calls
module _ (job : List ℕ) (j : Job) (b : Bytes job) (accepted : read_job job ≡ done j) where
  of_lists : OfLists j
  of_lists = record { same = same; some_calls = some_calls }
    where
      same : {now now' : Session} {events events' : List Happened} (h : History (compiled j) now events) (h' : History (compiled j) now' events') → Exchanges (sum_of j) (compiled j) (fresh (compiled j)) (picks_taken h) (picks_taken h')
          → (now.state ≡ now'.state) × (reported (calls_of h) ≡ reported (calls_of h'))
      same {now} {now'} {events} {events'} h h' x =
          let r = exchanges_same (sum_of j) (compiled j) x in
          let a = history_run job j b accepted h in
          let c = history_run job j b accepted h' in
          let l = call_lists job j b accepted in
          (sym (ap (λ (y : Ran). y.state) a) ∙ (r.state ∙ ap (λ (y : Ran). y.state) c), l.reports h ∙ (sym (ap (λ (y : Ran). counts_of y.events) a) ∙ (r.counts ∙ (ap (λ (y : Ran). counts_of y.events) c ∙ sym (l.reports h')))))

      some_calls : {now : Session} {events : List Happened} (h : History (compiled j) now events) (ks : List ℕ) → Exchanges (sum_of j) (compiled j) (fresh (compiled j)) (picks_taken h) ks
          → (now' : Session) × ((events' : List Happened) × ((h' : History (compiled j) now' events') × (picks_taken h' ≡ ks)))
      some_calls h ks x = (_, (_, picks_history job j b accepted ks (exchanges_below x (taken_below h))))

pub exchanging : Exchanging
exchanging =
    record {
      from_state = from_state;
      run-call = λ code s is ks b f. exchanged_call code s is ks (λ j e. f j (read_is_code code j b e));
      by_answer = by_answer;
      step_calls = λ code s i k b y n f g. let w = exchanged_steps code s i k b y n f g in (w.state, w.reply_i, w.reply_k);
      of_lists = of_lists;
    }
