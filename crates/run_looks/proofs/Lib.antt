pub mod FromBelow
pub mod StepsBack
