-- From the scan's answer to `read_back_to`. Assumes nothing.
use Prim.Native.Nat.{ℕ, ◌≤◌, ◌<◌}
use mathlib.Core.Path.{◌≡◌, refl, ap, ◌∙◌}
use mathlib.Core.List.{List, ◌++◌}
use lib.ListN.{length, drop}
use borrow.Author.Tests.{lt-ltb, le-ltb}
use Rattle.decompiler.specs.ReadBackTo.{bytes_of, read_back_to}
use Rattle.decompiler.specs.InnerWalk.{Restorable}
use Rattle.code.specs.Reader.{read_code}
use Rattle.delivery.specs.Delivered.{Delivered, delivered}
use Rattle.scan.specs.Answer.{told}
use Rattle.scan.specs.declared.Scanned.{Scanned}
use Rattle.script.specs.Count.{nodes_p}
use Rattle.script.specs.Outcome.{Outcome, refused, done, mapped}
use Rattle.script.specs.Jobs.{Job}

module _ (code before : List ℕ) where
  abbrev reached : Outcome Job → Delivered
  reached o = delivered (mapped bytes_of o) before

  is_reached : (o : Outcome Job) → read_code code ≡ o → read_back_to code before ≡ reached o
  unfolding read_back_to
  is_reached o e = ap reached e

  pub refused_answer : (number place : ℕ) → refused number place ≡ told (read_code code) → read_back_to code before ≡ record { answer = refused number place; output = before }
  unfolding delivered
  refused_answer number place e = go (read_code code) refl
    where
      go : (o : Outcome Job) → read_code code ≡ o → read_back_to code before ≡ record { answer = refused number place; output = before }
      go (refused n p) r = let f = e ∙ ap told r in let h : number ≡ n = cc in let k : place ≡ p = cc in is_reached (refused n p) r ∙ rw (h, k)
      go (done j) r = let f = e ∙ ap told r in cc

  -- the job that the scan found
  pub record FoundJob (nodes size : ℕ) : Type 0 where
    pub job : Job
    pub read : read_code code ≡ done job
    pub count : nodes ≡ nodes_p job.tree
    pub long : size ≡ length (bytes_of job)

  pub found : (s : Scanned) → done s ≡ told (read_code code) → FoundJob s.nodes s.size
  found s e = go (read_code code) refl
    where
      go : (o : Outcome Job) → read_code code ≡ o → FoundJob s.nodes s.size
      go (refused n p) r = let f = e ∙ ap told r in cc
      go (done j) r =
          let f : done s ≡ told (done j) = e ∙ ap told r in
          let same : s ≡ record { version = j.version; nodes = nodes_p j.tree; size = length (bytes_of j) } = cc in
          record { job = j; read = r; count = ap (λ (t : Scanned). t.nodes) same; long = ap (λ (t : Scanned). t.size) same }

  module _ {nodes size : ℕ} (f : FoundJob nodes size) where
    pub short_answer : length before < size → read_back_to code before ≡ record { answer = refused 10 0; output = before }
    unfolding delivered
    short_answer h = is_reached (done f.job) f.read ∙ rw (lt-ltb (length before) (length (bytes_of f.job)) (rw f.long at h))

    pub ready : size ≤ length before → Restorable code nodes before
    ready h = record { job = f.job; read = f.read; count = f.count; room = rw f.long at h }

    pub done_answer : (after : List ℕ) → size ≤ length before → ((j : Job) → read_code code ≡ done j → after ≡ bytes_of j ++ drop (length (bytes_of j)) before) → read_back_to code before ≡ record { answer = done size; output = after }
    unfolding delivered
    done_answer after h w =
        is_reached (done f.job) f.read ∙ rw (le-ltb (length before) (length (bytes_of f.job)) (rw f.long at h), f.long, w f.job f.read)
