-- Document 02 No. 7: "Scripts typed as formulas". Which texts are scripts, of which tree, is `IsScript`; refusal 15 and its place is `NoScript`
-- (grammar/specs/Grammar). The theorem `formulas` (guarantee/proofs/Formulas) says that it holds.
use Rattle.std.specs.Prelude.{ℕ, ◌≤◌, List, ◌↔◌, ◌⊎◌, ◌≡◌, length}
use Rattle.delivery.specs.Delivered.{Delivered, onto}
use Rattle.formula.specs.FormulaTo.{formula_to}
use Rattle.grammar.specs.Grammar.{IsScript, ShortScript, NoScript}
use Rattle.grammar.specs.Reader.{read_text}
use Rattle.guarantee.specs.Rows.{FormulaAnswer}
use Rattle.script.specs.Bytes.{job_bytes}
use Rattle.script.specs.Count.{nodes_p}
use Rattle.script.specs.Jobs.{Job}
use Rattle.script.specs.Outcome.{refused, done}
use Rattle.script.specs.Refusal as refusal
use Rattle.script.specs.Refusal.{IsJob}
use Rattle.script.specs.Tree.{Proc}

-- document 02 No. 7, of every text
pub record Formulas : Type 0 where
  -- "it has one tree"
  pub one_tree : (text : List ℕ) (p q : Proc) → IsScript text p → IsScript text q → p ≡ q
  -- which has no more nodes than the text bytes, so that a job's count of two bytes holds them
  pub counted : (text : List ℕ) (p : Proc) → IsScript text p → nodes_p p ≤ length text
  -- every text is a script of at most 32,768 bytes, or no script at some place; at one place only, and never both
  pub decided : (text : List ℕ) → ((p : Proc) × ShortScript text p) ⊎ ((i : ℕ) × NoScript text i)
  pub one_place : (text : List ℕ) (i k : ℕ) → NoScript text i → NoScript text k → i ≡ k
  pub not_both : (text : List ℕ) (p : Proc) (i : ℕ) → ShortScript text p → NoScript text i → ⊥
  -- what `read_text` says, in which the contract speaks of texts
  pub taken : (text : List ℕ) (p : Proc) → (read_text text ≡ done p) ↔ ShortScript text p
  pub turned-down : (text : List ℕ) (number place : ℕ) → (read_text text ≡ refused number place) ↔ ((number ≡ 15) × NoScript text place)
  -- `formula::formula`: what a call comes to is what one row says, and no row says anything else
  pub formula : (text before : List ℕ) (d : Delivered) → FormulaAnswer text before d ↔ (d ≡ formula_to text before)
  -- so 15 is told exactly there, whatever the output
  pub fifteen : (text before : List ℕ) (i : ℕ) → NoScript text i ↔ (formula_to text before ≡ record { answer = refused 15 i; output = before })
  -- of the job's own refusals only 4, 7, 8 and 14 can follow
  pub follow :
      (text : List ℕ) (p : Proc) (number place : ℕ) → ShortScript text p → refusal.Refused (job_bytes 1 p) number place →
      (number ≡ 4) ⊎ ((number ≡ 7) ⊎ ((number ≡ 8) ⊎ (number ≡ 14)))
  -- What is written is the accepted job of a script, which is read as the script's tree; by `formula` it is written wherever it fits
  pub written :
      (text before : List ℕ) (n : ℕ) → (formula_to text before).answer ≡ done n →
      (job : List ℕ) × (j : Job) × ShortScript text j.tree × IsJob job j × (j.version ≡ 1) × (n ≡ length job) ×
      (length job ≤ length before) × ((formula_to text before).output ≡ onto job before)
  -- Every version 1 job can be typed: some text is a script of its tree, and its job is that job.
  pub typed :
      (job : List ℕ) (j : Job) → IsJob job j → j.version ≡ 1 →
      (text : List ℕ) × ShortScript text j.tree ×
      ((before : List ℕ) → length job ≤ length before → formula_to text before ≡ record { answer = done (length job); output = onto job before })
