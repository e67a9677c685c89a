-- Where the values of the elementary functions lie. `Quadrants`: the angle of a point is in
-- [−π, π], from `Arctangents`: the arctangent is at most 3 in magnitude, and not below 0 where its
-- argument has no minus sign; what is said of both is here, and proved in proofs/. `Fitting`: both
-- are values of the format. `Sines`: sine and cosine of an angle that is due are finite.
-- `Arccosines`: a number from 0 to 1 has a finite arccosine.
pub mod Quadrants
pub mod Arctangents
pub mod Fitting
pub mod Sines
pub mod Arccosines
