-- The demands hold of every setup that is not refused (`demands`); a run that is refused at once adds nothing (`refused-at-once`, proofs/RefusedAtOnce), and masks are right (`masks-right`, proofs/Masks), whatever the setup.
use mathlib.Core.Path.{◌≡◌}
use Rattle.protocol_types.specs.Refusals.{no_refusal}
use Rattle.protocol_types.specs.Board.{setup_refusal}
use Rattle.competitive.specs.Claims.{Demands}
use Rattle.protocol_types.specs.declared.Setup.{Setup}
use Rattle.protocol_types.proofs.Board.{setup-fits}
use Rattle.competitive.proofs.Clears.{cleared-right}
use Rattle.competitive.proofs.Claim.{split-claim, claim-of}
use Rattle.competitive.proofs.CostKinds.{cost-kinds}
use Rattle.competitive.proofs.Tight.{tight-list}
use Rattle.competitive.proofs.LastValues.{last-values}
use Rattle.competitive.proofs.Priced.{judged-right, priced-right}
use Rattle.competitive.proofs.Masks.{masks-right}
use Rattle.competitive.proofs.Generator.{repeatable}
use Rattle.competitive.proofs.EngineSchedule.{runs-rival}

pub demands : (s : Setup) → setup_refusal s ≡ no_refusal → Demands s
demands s accepted = record {
  last-values = last-values s accepted;
  cleared-right = λ t sd i hi. cleared-right s (setup-fits s accepted) t sd i hi;
  judged-right = judged-right s;
  priced-right = priced-right s;
  demand3 = record {
    bounded = λ a p rs. claim-of s a rs (split-claim s accepted a p rs);
    split = split-claim s accepted;
    kinds = cost-kinds s;
    tight = tight-list s accepted;
  };
  masks-right = masks-right s;
  repeatable = repeatable s;
  engine-is-rival = λ a p rs. runs-rival s accepted a.requests rs;
}
